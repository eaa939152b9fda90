use Rattle.std.proofs.Common.{◌≡◌, ◌<◌, ◌∷◌, [], ◌++◌, ◌∙◌, List, length, length-append, Err, ap, rules, arith}
use Rattle.std.proofs.lemmas.List.{map-append}
use Rattle.std.proofs.lemmas.Result.{err_from_is_err_and}
use Rattle.swim_wire.specs.declared.state_record.StateRecord.{StateRecord}
use Rattle.swimwatch.specs.Records.{claims_in}
use Rattle.swimwatch.proofs.Prefixes.{started, one_more, ended, ended_with, no_header, no_record, no_user, no_fault, no_rise, told}
use Rattle.swimwatch.proofs.heard.records.read_records.Goals as goal

pub loop-count-init : goal.loop-count-init
loop-count-init c = record {
  some =
      rw c.new-records.ensures.items
      (started c.args.bytes.now c.read_header.new.inlet c.in_ok-header.header (rw c.new-inlet.ensures at c.in_ok-header.ensures.takes));
  count = ap (λ (rs : List StateRecord). length (claims_in rs)) c.new-records.ensures.items;
}

pub loop-count-preserved : goal.loop-count-preserved
loop-count-preserved c =
    let all : c.push.new.self.items ≡ c.loop-count.records.items ++ c.in_ok-read.read ∷ [] = search rules in
    let pushed : claims_in c.push.new.self.items ≡ claims_in c.loop-count.records.items ++ c.in_ok-read.read.claim ∷ [] =
    ap claims_in all ∙ map-append (λ (r : StateRecord). r.claim) c.loop-count.records.items (c.in_ok-read.read ∷ []) in
    let more = length-append (claims_in c.loop-count.records.items) (c.in_ok-read.read.claim ∷ []) in
    let counted = c.loop-count.invariant.count in
    record {
      some =
          rw pushed
          (one_more c.args.bytes.now c.loop-count.inlet c.read_record.new.inlet c.in_ok-header.header (claims_in c.loop-count.records.items)
          c.in_ok-read.read.claim c.loop-count.invariant.some c.in_ok-read.ensures.takes);
      count = rw pushed (omega (arith, more, counted));
    }

pub returns-in_err-header-clause-none : goal.returns-in_err-header-clause-none
returns-in_err-header-clause-none c =
    let p = err_from_is_err_and c.from_residual.result c.from_residual.ensures.1 in
    let why = c.in_err-header.ensures in
    let lacks = rw c.new-inlet.ensures at why.lacks in
    rw (p.1, p.2) (λ other. no_header c.args.bytes.now
    (told c.in_err-header.field-0.0 (no_fault c.in_err-header.field-0.0 why.exact.fault) other lacks))

pub returns-in_err-read-clause-none : goal.returns-in_err-read-clause-none
returns-in_err-read-clause-none c =
    let p = err_from_is_err_and c.from_residual-in_err-read.result c.from_residual-in_err-read.ensures.1 in
    let why = c.in_err-read.ensures in
    let counted = c.loop-count.invariant.count in
    let fewer : length (claims_in c.loop-count.records.items) < c.in_ok-header.header.nodes = search rules in
    rw (p.1, p.2) (λ other. no_record c.args.bytes.now c.loop-count.inlet c.in_ok-header.header (claims_in c.loop-count.records.items)
    c.loop-count.invariant.some fewer (told c.in_err-read.field-0.0 (no_fault c.in_err-read.field-0.0 why.exact.fault) other why.lacks))

pub returns-in_err-skip_user-clause-none : goal.returns-in_err-skip_user-clause-none
returns-in_err-skip_user-clause-none c =
    let p = err_from_is_err_and c.from_residual-in_err-skip_user.result c.from_residual-in_err-skip_user.ensures.1 in
    let why = c.in_err-skip_user.ensures in
    let all : length (claims_in c.loop-count.records.items) ≡ c.in_ok-header.header.nodes = search rules in
    rw (p.1, p.2) (λ other. no_user c.args.bytes.now c.loop-count.inlet c.in_ok-header.header (claims_in c.loop-count.records.items)
    c.loop-count.invariant.some all (told c.in_err-skip_user.field-0.0 (λ is. no_rise (why.fault (ap Err is))) other why.lacks))

pub returns-clause-whole : goal.returns-clause-whole
returns-clause-whole c =
    let all : length (claims_in c.loop-count.records.items) ≡ c.in_ok-header.header.nodes = search rules in
    ended c.args.bytes.now c.loop-count.inlet c.skip_user.new.inlet c.in_ok-header.header (claims_in c.loop-count.records.items) all
    c.loop-count.invariant.some c.in_ok-skip_user.ensures.takes

pub returns-clause-user : goal.returns-clause-user
returns-clause-user c =
    let all : length (claims_in c.loop-count.records.items) ≡ c.in_ok-header.header.nodes = search rules in
    rw (c.in_ok-user.ensures, c.rest.ensures)
    (ended_with c.args.bytes.now c.loop-count.inlet c.skip_user.new.inlet c.in_ok-header.header (claims_in c.loop-count.records.items) all
    c.loop-count.invariant.some c.in_ok-skip_user.ensures.takes)
