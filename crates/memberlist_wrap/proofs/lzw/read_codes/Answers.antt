use Rattle.std.proofs.Common.{◌≡◌, ◌+◌, ◌^◌, ◌<◌, length, drop, arith, refl, ap, ◌∙◌, inl, inr, Err}
use Rattle.std.proofs.lemmas.Result.{err_from_is_err_and}
use Rattle.std.proofs.lemmas.List.{length-append, drop_all}
use Rattle.memberlist_wrap.specs.Bits.{bits_of}
use Rattle.memberlist_wrap.specs.Lzw.{width}
use Rattle.memberlist_wrap.proofs.Codes.{CodesGive-start, CodesGive-clear, CodesGive-word, taken_in, few_left}
use Rattle.memberlist_wrap.proofs.Codes.{bits_of_some, read_code, few_again, width_between}
use Rattle.memberlist_wrap.proofs.Stopping.{trailing, ended, bad_code, large, ends}
use Rattle.memberlist_wrap.proofs.lzw.read_codes.Goals as goal
use Rattle.memberlist_wrap.proofs.lzw.read_codes.Goals.{in-None, in-Some-eq256, in-Some+in_ok-append-in-Some}

pub loop-i-init : goal.loop-i-init
loop-i-init c = rw (c.new-words.ensures, c.new-held.ensures)
    (record { few = omega arith; within = omega arith; reaches = CodesGive-start c.args.bytes.now })

pub append-requires-clause-narrow : goal.append-requires-clause-narrow
append-requires-clause-narrow c =
    let between = width_between (length c.loop-i.words.words) in
    let below : c.in-Some.code < 2 ^ width (length c.loop-i.words.words) = rw (← c.width.ensures) c.in-Some.ensures.0 in
    omega (arith, below, between.2)

pub returns-then-i-bytes-clause-err : goal.returns-then-i-bytes-clause-err
returns-then-i-bytes-clause-err c m =
    let next = read_code c.args.bytes.now c.loop-i.words.words c.loop-i.held c.add.new.self c.take.new.self
    c.loop-i.i c.width.result c.in-Some-eq257.field-0
    c.loop-i-test.true c.add.ensures c.width.ensures c.in-Some-eq257.ensures in
    let long = bits_of_some c.args.bytes.now (c.loop-i.i + 1) c.if-i-bytes.true in
    trailing c.args.limit c.args.bytes.now c.loop-i.words _ _ c.in-Some-eq257.field-0
    c.loop-i.invariant.reaches next c.in-Some-eq257.field-0-test
    (omega (arith, long, length-append c.take.new.self (bits_of (drop (c.loop-i.i + 1) c.args.bytes.now))))

pub returns-in-Some-eq257-clause-ok : goal.returns-in-Some-eq257-clause-ok
returns-in-Some-eq257-clause-ok c =
    let next = read_code c.args.bytes.now c.loop-i.words.words c.loop-i.held c.add.new.self c.take.new.self
    c.loop-i.i c.width.result c.in-Some-eq257.field-0
    c.loop-i-test.true c.add.ensures c.width.ensures c.in-Some-eq257.ensures in
    let few =
    few_left c.loop-i.held c.add.new.self c.take.new.self _ c.width.result c.in-Some-eq257.field-0
    (omega (arith, c.width.ensures, c.loop-i.invariant.few)) c.add.ensures c.in-Some-eq257.ensures.1 in
    let last : length (bits_of (drop (c.loop-i.i + 1) c.args.bytes.now)) ≡ 0 =
    ap (λ bs. length (bits_of bs)) (drop_all (c.loop-i.i + 1) c.args.bytes.now c.if-i-bytes.false) in
    rw c.into_output.ensures
    (ends c.args.bytes.now c.loop-i.words _ _ c.in-Some-eq257.field-0 c.loop-i.invariant.reaches next c.in-Some-eq257.field-0-test
    (omega (arith, few, last, length-append c.take.new.self (bits_of (drop (c.loop-i.i + 1) c.args.bytes.now)))))

pub returns-in_err-append-in-Some-clause-err : goal.returns-in_err-append-in-Some-clause-err
returns-in_err-append-in-Some-clause-err c =
    let next = read_code c.args.bytes.now c.loop-i.words.words c.loop-i.held c.add.new.self c.take.new.self
    c.loop-i.i c.width.result c.in-Some.code
    c.loop-i-test.true c.add.ensures c.width.ensures c.in-Some.ensures in
    let exit = err_from_is_err_and c.from_residual.result c.from_residual.ensures.1 in
    let same = exit.2 in
    rw exit.1 (λ m.
    elim c.in_err-append-in-Some.ensures.only [
      | inl bad ↦
          rw (same, bad)
          (bad_code c.args.limit c.args.bytes.now c.loop-i.words _ _ c.in-Some.code c.loop-i.invariant.reaches next
          c.in-Some.code-test.0.1 c.in-Some.code-test.1 (c.in_err-append-in-Some.ensures.bad (ap Err bad)))
      | inr other ↦ elim other [
        | inl long ↦
            rw (same, long)
            (large c.args.limit c.args.bytes.now c.loop-i.words _ _ c.in-Some.code c.loop-i.invariant.reaches next
            (c.in_err-append-in-Some.ensures.large (ap Err long)))
        | inr memory ↦ absurd (m (same ∙ memory))
      ]
    ])

pub loop-i-preserved : goal.loop-i-preserved
loop-i-preserved c =
    elim c.match-take.branch [
      | in-None w ↦
          rw (w.words-is, w.in-None.ensures.0) (record {
            few = omega (arith, w.in-None.ensures.1, c.width.ensures);
            within = c.loop-i.invariant.within;
            reaches =
                rw (taken_in c.args.bytes.now c.loop-i.held c.add.new.self c.loop-i.i _ c.loop-i-test.true
                refl c.add.ensures) at c.loop-i.invariant.reaches;
          })
      | in-Some-eq256 w ↦
          (let next = read_code c.args.bytes.now c.loop-i.words.words c.loop-i.held c.add.new.self c.take.new.self
          c.loop-i.i c.width.result w.in-Some-eq256.field-0
          c.loop-i-test.true c.add.ensures c.width.ensures w.in-Some-eq256.ensures in
          rw (w.words-is, w.clear.ensures) (record {
            few =
                few_again c.loop-i.held c.add.new.self c.take.new.self _ c.width.result w.in-Some-eq256.field-0 0
                (omega (arith, c.width.ensures, c.loop-i.invariant.few)) c.add.ensures w.in-Some-eq256.ensures.1;
            within = c.loop-i.invariant.within;
            reaches =
                CodesGive-clear c.args.bytes.now c.loop-i.words.output c.loop-i.words.words _ _ w.in-Some-eq256.field-0
                c.loop-i.invariant.reaches next w.in-Some-eq256.field-0-test;
          }))
      | in-Some+in_ok-append-in-Some w ↦
          (let next = read_code c.args.bytes.now c.loop-i.words.words c.loop-i.held c.add.new.self
          c.take.new.self c.loop-i.i c.width.result w.in-Some.code
          c.loop-i-test.true c.add.ensures c.width.ensures w.in-Some.ensures in
          let added = w.in_ok-append-in-Some.ensures.appends in
          let short = w.in_ok-append-in-Some.ensures.short in
          rw w.words-is (record {
            few =
                few_again c.loop-i.held c.add.new.self c.take.new.self _ c.width.result w.in-Some.code
                (length w.append.new.self.words) (omega (arith, c.width.ensures, c.loop-i.invariant.few)) c.add.ensures
                w.in-Some.ensures.1;
            within = short;
            reaches =
                rw added.2
                (CodesGive-word c.args.bytes.now c.loop-i.words.output c.loop-i.words.words _ _ added.0
                w.in-Some.code c.loop-i.invariant.reaches next added.1);
          }))
    ]

pub returns-clause-err : goal.returns-clause-err
returns-clause-err c m =
    let last : length (bits_of (drop c.loop-i.i c.args.bytes.now)) ≡ 0 =
    ap (λ bs. length (bits_of bs)) (drop_all c.loop-i.i c.args.bytes.now c.loop-i-test.false) in
    ended c.args.limit c.args.bytes.now c.loop-i.words _ c.loop-i.invariant.reaches
    (omega (arith, last, c.loop-i.invariant.few, length-append c.loop-i.held (bits_of (drop c.loop-i.i c.args.bytes.now))))
