use Rattle.std.proofs.Common.{◌≡◌, ℕ, ◌^◌, ◌<◌, List, [], ◌∷◌, ◌++◌, length, ap, ◌∙◌, arith}
use Rattle.memberlist_compress.specs.Compressed.{IsCompression, map_bytes}
use Rattle.memberlist_compress.proofs.Messages.{Wrapped-compression, length-map_bytes}
use Rattle.memberlist_compress.proofs.message.compressed.Goals as goal

pub returns : goal.returns
returns c =
    let packed = c.in_ok-packed.packed.items in
    let made = c.write_map.new.out.items in
    let value : c.deref.result.now ≡ packed = c.deref.ensures.value in
    let text : made ≡ 9 ∷ map_bytes packed =
    c.in_ok-write_map.ensures
    ∙ ap (λ (x : List ℕ). x ++ map_bytes c.deref.result.now)
    (c.in_ok-extend_from_slice.ensures.items ∙ ap (λ (x : List ℕ). x ++ 9 ∷ []) c.in_ok-out.ensures.items)
    ∙ ap (λ p. 9 ∷ map_bytes p) value in
    let short = c.in_ok-packed.ensures.short in
    let below : length packed < 2 ^ 32 = omega (arith, c.requires, short) in
    let is : IsCompression made c.args.message.now =
    record { packed = packed; lzw = c.in_ok-packed.ensures.compresses; small = below; text = text } in
    record {
      compresses = is;
      wraps = λ limit within. Wrapped-compression limit made c.args.message.now is within;
      short = omega (arith, ap length text, length-map_bytes packed, short);
    }
