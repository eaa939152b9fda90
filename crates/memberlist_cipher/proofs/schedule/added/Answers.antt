use Rattle.std.proofs.Common.{◌≡◌, ℕ, List, length, map, get_or, sym, refl, ap, ap₂, ◌∙◌, arith, bit_xor}
use Rattle.memberlist_cipher.specs.Field.{sub}
use Rattle.memberlist_cipher.specs.Block.{added}
use Rattle.memberlist_cipher.proofs.Sixteen.{four, cons}
use Rattle.memberlist_cipher.proofs.Scheduling.{added_first, added_middle, added_none, added_other}
use Rattle.memberlist_cipher.proofs.schedule.added.Goals as goal

pub returns-then-place-eq0 : goal.returns-then-place-eq0
returns-then-place-eq0 c =
    let t = c.args.t in
    let size : length t ≡ 4 = omega arith in
    let values = c.sub_word-values.ensures ∙ ap (map sub) (four t size) in
    let value = λ (k : ℕ). ap (λ (l : List ℕ). get_or l k 0) values in
    cons (ap₂ bit_xor (value 1) c.x_to-power.ensures) (cons (value 2) (cons (value 3) (cons (value 0) refl)))
    ∙ sym (added_first c.args.key_words c.args.i (get_or t 0 0) (get_or t 1 0) (get_or t 2 0) (get_or t 3 0) c.if-place-eq0.true)
    ∙ sym (ap (added c.args.key_words c.args.i) (four t size))

pub returns-then-key_words-gt6 : goal.returns-then-key_words-gt6
returns-then-key_words-gt6 c =
    c.sub_word.ensures ∙ sym (added_middle c.args.key_words c.args.i c.args.t c.if-place-eq4.true c.if-key_words-gt6.true)

pub returns-else-key_words-gt6 : goal.returns-else-key_words-gt6
returns-else-key_words-gt6 c = sym (added_none c.args.key_words c.args.i c.args.t c.if-place-eq4.true c.if-key_words-gt6.false)

pub returns-else-place-eq4 : goal.returns-else-place-eq4
returns-else-place-eq4 c = sym (added_other c.args.key_words c.args.i c.args.t c.if-place-eq0.false c.if-place-eq4.false)
