use Rattle.std.proofs.Common.{refl, ◌≡◌, ◌≤◌, ◌∙◌, ℕ, Ok, length}
use Rattle.std.proofs.lemmas.Result.{err_from_is_err_and}
use Rattle.std.proofs.lemmas.List.{with_items_is}
use Rattle.swim_pack.specs.Reading.{raw_at, next_bytes}
use Rattle.swim_pack.specs.declared.fault.PackFault.TheVariants.{Memory}
use Rattle.swim_pack.proofs.Composing.{Reads-exit, Reads-then, Reads-seen, Reads-error, Reads-memory, Reads-takes}
use Rattle.swim_pack.proofs.Numbers.{raw_len_takes}
use Rattle.swim_pack.specs.Spelling.{RawLen}
use Rattle.swim_pack.proofs.read.read_whole_raw.Goals as goal

pub returns-in_err-len-clause-exact : goal.returns-in_err-len-clause-exact
unfolding raw_at
returns-in_err-len-clause-exact g c =
    let p = err_from_is_err_and c.from_residual.result c.from_residual.ensures.1 in
    rw (p.1, p.2) (Reads-exit _ c.in_err-len.ensures.exact)

pub returns-in_err-bytes-clause-exact : goal.returns-in_err-bytes-clause-exact
unfolding raw_at
returns-in_err-bytes-clause-exact g c =
    let p = err_from_is_err_and c.from_residual-in_err-bytes.result c.from_residual-in_err-bytes.ensures.1 in
    rw (p.1, p.2) (Reads-memory next_bytes Memory refl c.in_ok-len.ensures.exact)

pub returns-in_err-fill-clause-exact : goal.returns-in_err-fill-clause-exact
unfolding raw_at
returns-in_err-fill-clause-exact g c =
    let size : length c.deref_mut.result.now ≡ c.in_ok-len.len = c.deref_mut.ensures.len ∙ c.in_ok-bytes.ensures.len in
    let p = err_from_is_err_and c.from_residual-in_err-fill.result c.from_residual-in_err-fill.ensures.1 in
    rw (p.1, p.2) (Reads-then _ c.in_ok-len.ensures.exact (Reads-error (rw size at c.in_err-fill.ensures.exact)))

pub returns-clause-exact : goal.returns-clause-exact
unfolding raw_at
returns-clause-exact g c =
    let size : length c.deref_mut.result.now ≡ c.in_ok-len.len = c.deref_mut.ensures.len ∙ c.in_ok-bytes.ensures.len in
    Reads-then _ c.in_ok-len.ensures.exact
    (Reads-seen _ (with_items_is c.in_ok-bytes.bytes c.fill.new.buf
    (c.fill.auto.buf ∙ c.deref_mut.ensures.len)) (rw size at c.in_ok-fill.ensures.exact))

pub returns-in_err-bytes-clause-memory : goal.returns-in_err-bytes-clause-memory
returns-in_err-bytes-clause-memory g c =
    λ _. Reads-takes (Ok c.in_ok-len.len)
    (λ _ b. (n : ℕ) × (n ≤ c.args.limit) × RawLen b n)
    (raw_len_takes c.args.limit) c.in_ok-len.ensures.exact
