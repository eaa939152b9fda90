use Rattle.std.proofs.Common.{◌≡◌, length, arith, ap, ◌∙◌}
use Rattle.memberlist_wrap.specs.Lzw.{width}
use Rattle.memberlist_wrap.proofs.Keeping.{width_kept}
use Rattle.memberlist_wrap.proofs.dictionary.Dictionary.width.Goals as goal

pub returns : goal.returns
returns c =
    let inside = c.self.inside in
    let same : c.len.result ≡ length inside.starts.items = omega (arith, c.len.ensures, inside.starts.ok.0) in
    c.width_after.ensures ∙ ap width same ∙ width_kept inside.output.items inside.starts.items c.args.self.now c.self.view_is
