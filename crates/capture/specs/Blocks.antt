-- What the blocks that are read hold.
use Rattle.std.specs.Prelude.{ℕ, List}
use Rattle.capture.specs.declared.blocks.Block.{Block}
use Rattle.capture.specs.declared.blocks.Block.TheVariants as blocks
use Rattle.capture.specs.declared.section.Section.{Section}
use Rattle.capture.specs.Pcapng.{BlockText, SectionText}
use Rattle.capture.specs.Pcapng.BlockText.{section, interface, packet, other}

-- what a block holds, with the captured bytes
abbrev pub block_text : List ℕ → Block → BlockText
block_text bytes (blocks.Section order) = section order
block_text bytes (blocks.Interface on) = interface on
block_text bytes (blocks.Packet head) = packet head bytes
block_text bytes blocks.Other = other

-- what a section has described
abbrev pub section_text : Section → SectionText
section_text now = record { order = now.order; interfaces = now.interfaces.items }
