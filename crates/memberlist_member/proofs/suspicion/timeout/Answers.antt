use Rattle.std.proofs.Common.{◌*◌, ◌∙◌, ap₂}
use Rattle.std.specs.Int.{div_ceil}
use Rattle.memberlist_member.proofs.Suspecting.{greatest}
use Rattle.memberlist_member.proofs.suspicion.timeout.Goals as goal

pub returns-clause-lasts : goal.returns-clause-lasts
returns-clause-lasts c =
    let s = c.share-part.ensures in
    let is = c.div_ceil-less.ensures ∙ ap₂ div_ceil (ap₂ (λ a b. a * b) c.from.ensures c.from-2.ensures) c.from-3.ensures in (
      λ none. absurd (c.if-k-eq0.false none),
      λ some. greatest c.args.k c.args.confirmed c.share-part.result.0 c.share-part.result.1 c.args.min c.args.max
          c.div_ceil-less.result s.is s.positive s.proper c.requires.ordered c.requires.bound is,
    )
