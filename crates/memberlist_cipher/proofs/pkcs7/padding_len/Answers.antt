use Rattle.std.proofs.Common.{◌-◌, ◌≤◌, length, refl, sym, ap, ◌∙◌, arith, get_or}
use Rattle.memberlist_cipher.proofs.Sealing.{pad_back, pad_is, pad_length, pad_last, pad_end}
use Rattle.memberlist_cipher.proofs.pkcs7.padding_len.Goals as goal

pub returns-then-len-eq0-clause-none : goal.returns-then-len-eq0-clause-none
returns-then-len-eq0-clause-none c = λ m e. omega (arith, pad_length m, ap length e, c.if-len-eq0.true)

pub returns-then-len-ne0-clause-none : goal.returns-then-len-ne0-clause-none
returns-then-len-ne0-clause-none c = λ m e. omega (arith, pad_length m, ap length e, c.if-len-ne0.true)

pub returns-then-more-eq0-clause-none : goal.returns-then-more-eq0-clause-none
returns-then-more-eq0-clause-none c = λ m e.
    let last = sym (ap (λ xs. get_or xs (length xs - 1) 0) e) ∙ pad_last m in
    omega (arith, last, c.if-more-eq0.true)

pub returns-then-more-gt16-clause-none : goal.returns-then-more-gt16-clause-none
returns-then-more-gt16-clause-none c = λ m e.
    let last = sym (ap (λ xs. get_or xs (length xs - 1) 0) e) ∙ pad_last m in
    omega (arith, last, c.if-more-gt16.true)

pub returns-then-not-all_are-clause-none : goal.returns-then-not-all_are-clause-none
returns-then-not-all_are-clause-none c = λ m e.
    let d = c.args.text.now in
    let last = sym (ap (λ xs. get_or xs (length xs - 1) 0) e) ∙ pad_last m in
    c.if-not-all_are.ensures (pad_end m d (length d) _ e refl last)

pub returns-clause-some : goal.returns-clause-some
returns-clause-some c =
    let d = c.args.text.now in
    let more = get_or d (length d - 1) 0 in
    let fits : more ≤ length d = omega arith in
    let is = pad_is d d (length d) more refl refl fits c.if-not-all_are.ensures in
    (fits, pad_back d more (omega arith) (omega arith) (omega arith) (omega arith) is)
