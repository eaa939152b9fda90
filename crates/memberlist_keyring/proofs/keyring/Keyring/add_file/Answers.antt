use Rattle.std.proofs.Common.{arith}
use Rattle.std.proofs.lemmas.Result.{err_from_is_err_and}
use Rattle.memberlist_keyring.proofs.Files.{no_key_file}
use Rattle.memberlist_keyring.proofs.Lines.{keys_take_memory}
use Rattle.memberlist_keyring.proofs.keyring.Keyring.add_file.Goals as goal

pub returns-in_err-keys-clause-refuses : goal.returns-in_err-keys-clause-refuses
returns-in_err-keys-clause-refuses c =
    let exit = err_from_is_err_and c.from_residual.result c.from_residual.ensures.1 in
    rw (exit.1, exit.2) (λ other. no_key_file _ c.args.text.now other c.in_err-keys.ensures.err)

pub returns-in_err-append-clause-reason : goal.returns-in_err-append-clause-reason
returns-in_err-append-clause-reason c =
    let exit = err_from_is_err_and c.from_residual-in_err-append.result c.from_residual-in_err-append.ensures.1 in
    let ours = c.self.inside.keys.ok in
    let theirs = c.in_ok-keys.keys.ok in
    rw (exit.1, exit.2)
    (keys_take_memory c.args.text.now c.in_ok-keys.keys.items c.in_ok-keys.ensures.ok (omega (arith, c.in_err-append.ensures.full)))
