use Rattle.std.proofs.Common.{◌≡◌, ◌<◌, ◌≤◌, length, true, false, sym, ◌∙◌, arith}
use Rattle.std.specs.Prelude.{Some, None}
use Rattle.capture.specs.Packets.{version_of, is_tag, field}
use Rattle.capture.proofs.Stepping.{type_short, type_cut_off, type_other, tag_short, tag_cut_off}
use Rattle.capture.proofs.frame.read_type.Goals as goal

pub returns-then-rest-lt2-clause-err : goal.returns-then-rest-lt2-clause-err
returns-then-rest-lt2-clause-err c =
    c.loop-rest.invariant ∙ type_short c.loop-rest.rest.now (omega (arith, c.if-rest-lt2.true))

pub returns-in-Some-clause-ok : goal.returns-in-Some-clause-ok
returns-in-Some-clause-ok c =
    let rest = c.loop-rest.rest.now in
    let long : 2 ≤ length rest = omega (arith, c.if-rest-lt2.false) in
    let is : version_of (field 0 2 rest) ≡ Some c.in-Some.version = rw (sym c.read_u16-kind.ensures) (sym c.in-Some.ensures) in
    c.loop-rest.invariant ∙ type_cut_off rest c.in-Some.version long is

pub returns-then-not-is_type_of_tag-clause-err : goal.returns-then-not-is_type_of_tag-clause-err
returns-then-not-is_type_of_tag-clause-err c =
    let rest = c.loop-rest.rest.now in
    let long : 2 ≤ length rest = omega (arith, c.if-rest-lt2.false) in
    let none : version_of (field 0 2 rest) ≡ None = rw (sym c.read_u16-kind.ensures) (sym c.version.ensures ∙ c.in_default.is) in
    let untagged : is_tag (field 0 2 rest) ≡ false = rw (sym c.read_u16-kind.ensures)
    (sym c.is_type_of_tag.ensures ∙ c.if-not-is_type_of_tag.true) in
    rw (c.other_type.ensures, c.read_u16-kind.ensures) (c.loop-rest.invariant ∙ type_other rest long none untagged)

pub returns-then-rest-lt4-clause-err : goal.returns-then-rest-lt4-clause-err
returns-then-rest-lt4-clause-err c =
    let rest = c.loop-rest.rest.now in
    let long : 2 ≤ length rest = omega (arith, c.if-rest-lt2.false) in
    let short : length rest < 4 = omega (arith, c.if-rest-lt4.true) in
    let none : version_of (field 0 2 rest) ≡ None = rw (sym c.read_u16-kind.ensures) (sym c.version.ensures ∙ c.in_default.is) in
    let is : is_tag (field 0 2 rest) ≡ true = rw (sym c.read_u16-kind.ensures)
    (sym c.is_type_of_tag.ensures ∙ c.if-not-is_type_of_tag.false) in
    c.loop-rest.invariant ∙ tag_short rest long short none is

pub loop-rest-preserved : goal.loop-rest-preserved
loop-rest-preserved c =
    let rest = c.loop-rest.rest.now in
    let long : 4 ≤ length rest = omega (arith, c.if-rest-lt4.false) in
    let none : version_of (field 0 2 rest) ≡ None = rw (sym c.read_u16-kind.ensures) (sym c.version.ensures ∙ c.in_default.is) in
    let is : is_tag (field 0 2 rest) ≡ true = rw (sym c.read_u16-kind.ensures)
    (sym c.is_type_of_tag.ensures ∙ c.if-not-is_type_of_tag.false) in
    c.loop-rest.invariant ∙ tag_cut_off rest long none is
