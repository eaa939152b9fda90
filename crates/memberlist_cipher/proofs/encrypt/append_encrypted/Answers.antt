use Rattle.std.proofs.Common.{◌≡◌, ◌-◌, ◌/◌, length, take, drop, ap, ◌∙◌, arith}
use Rattle.std.proofs.lemmas.List.{take_all, length-drop}
use Rattle.memberlist_cipher.specs.Block.{cipher}
use Rattle.memberlist_cipher.specs.Gcm.{tag}
use Rattle.memberlist_cipher.proofs.Prepared.{known}
use Rattle.memberlist_cipher.proofs.Encrypting.{parts_are}
use Rattle.memberlist_cipher.proofs.encrypt.append_encrypted.Goals as goal

pub overflow_sub-count : goal.overflow_sub-count
overflow_sub-count c = (known c.args.key.now _ c.as_slice-words.result.now _ c.key.view_is c.key.invariant
    c.as_slice-words.ensures.value).some

pub append_ctr-requires-clause-few : goal.append_ctr-requires-clause-few
append_ctr-requires-clause-few c = (known c.args.key.now _ c.as_slice-words.result.now _ c.key.view_is
    c.key.invariant c.as_slice-words.ensures.value).few

pub append_ctr-requires-clause-words : goal.append_ctr-requires-clause-words
append_ctr-requires-clause-words c = (known c.args.key.now _ c.as_slice-words.result.now _ c.key.view_is
    c.key.invariant c.as_slice-words.ensures.value).words

pub tag-tag_bytes-requires-clause-few : goal.tag-tag_bytes-requires-clause-few
tag-tag_bytes-requires-clause-few c = (known c.args.key.now _ c.as_slice-words.result.now _ c.key.view_is
    c.key.invariant c.as_slice-words.ensures.value).few

pub tag-tag_bytes-requires-clause-words : goal.tag-tag_bytes-requires-clause-words
tag-tag_bytes-requires-clause-words
    c = (known c.args.key.now _ c.as_slice-words.result.now _ c.key.view_is c.key.invariant
    c.as_slice-words.ensures.value).words

pub tag-tag_bytes-requires-clause-block : goal.tag-tag_bytes-requires-clause-block
tag-tag_bytes-requires-clause-block
    c = (known c.args.key.now _ c.as_slice-words.result.now _ c.key.view_is c.key.invariant
    c.as_slice-words.ensures.value).block

pub returns-clause-good_key : goal.returns-clause-good_key
returns-clause-good_key c = (known c.args.key.now _ c.as_slice-words.result.now _ c.key.view_is
    c.key.invariant c.as_slice-words.ensures.value).good

pub returns-clause-items : goal.returns-clause-items
returns-clause-items c =
    let w = c.as_slice-words.result.now in
    let n = length w / 16 - 2 in
    let nonce = c.args.nonce.now in
    let aad = c.args.aad.now in
    let start = c.len-start.result in
    let under = (known c.args.key.now _ w _ c.key.view_is c.key.invariant c.as_slice-words.ensures.value).under in
    let place : start ≡ length c.append-2.new.to.items = omega (arith, c.len-start.ensures) in
    let d = c.deref.result.now in
    let part = take (length d - start) (drop start d) in
    let all : part ≡ drop start d = take_all (length d - start) (drop start d) (omega (arith, length-drop start d)) in
    let tagged : c.tag-tag_bytes.result ≡ tag (cipher w n) nonce aad part = c.tag-tag_bytes.ensures in
    parts_are c.args.key.now nonce aad c.args.message.now c.args.to.now.items w _ _ _ _ part _ n start under
    c.append.ensures.items c.append-2.ensures.items place c.append_ctr.ensures.items
    (all ∙ ap (drop start) c.deref.ensures.value) tagged c.append-3.ensures.items
