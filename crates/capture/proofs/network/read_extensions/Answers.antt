use Rattle.std.proofs.Common.{◌≡◌, ◌<◌, ◌≤◌, length, true, false, sym, ◌∙◌, arith}
use Rattle.capture.specs.Packets.{is_extension, is_ip6_fragment}
use Rattle.capture.proofs.Stepping.{extension_none, extension_short, extension_divides, extension_over, extension_cut_off}
use Rattle.capture.proofs.network.read_extensions.Goals as goal

pub returns-then-rest-lt8-clause-err : goal.returns-then-rest-lt8-clause-err
returns-then-rest-lt8-clause-err c =
    let is : is_extension c.loop-rest.next ≡ true = sym c.extends.ensures ∙ c.loop-rest-test.true in
    c.loop-rest.invariant ∙ extension_short c.loop-rest.next c.loop-rest.rest.now is (omega (arith, c.if-rest-lt8.true))

pub returns-then-divides-clause-err : goal.returns-then-divides-clause-err
returns-then-divides-clause-err c =
    let rest = c.loop-rest.rest.now in
    let is : is_extension c.loop-rest.next ≡ true = sym c.extends.ensures ∙ c.loop-rest-test.true in
    let long : 8 ≤ length rest = omega (arith, c.if-rest-lt8.false) in
    let divides : is_ip6_fragment c.loop-rest.next rest ≡ true = sym c.divides.ensures ∙ c.if-divides.true in
    c.loop-rest.invariant ∙ extension_divides c.loop-rest.next rest is long divides

pub returns-then-rest-len-clause-err : goal.returns-then-rest-len-clause-err
returns-then-rest-len-clause-err c =
    let rest = c.loop-rest.rest.now in
    let is : is_extension c.loop-rest.next ≡ true = sym c.extends.ensures ∙ c.loop-rest-test.true in
    let long : 8 ≤ length rest = omega (arith, c.if-rest-lt8.false) in
    let whole : is_ip6_fragment c.loop-rest.next rest ≡ false = sym c.divides.ensures ∙ c.if-divides.false in
    let over : length rest < c.header_len-len.result = omega (arith, c.if-rest-len.true) in
    c.loop-rest.invariant
    ∙ extension_over c.loop-rest.next rest c.header_len-len.result c.header_len-len.ensures is long whole over

pub loop-rest-preserved : goal.loop-rest-preserved
loop-rest-preserved c =
    let rest = c.loop-rest.rest.now in
    let is : is_extension c.loop-rest.next ≡ true = sym c.extends.ensures ∙ c.loop-rest-test.true in
    let long : 8 ≤ length rest = omega (arith, c.if-rest-lt8.false) in
    let whole : is_ip6_fragment c.loop-rest.next rest ≡ false = sym c.divides.ensures ∙ c.if-divides.false in
    let all : c.header_len-len.result ≤ length rest = omega (arith, c.if-rest-len.false) in
    c.loop-rest.invariant
    ∙ extension_cut_off c.loop-rest.next rest c.header_len-len.result c.header_len-len.ensures is long whole all

pub returns-clause-ok : goal.returns-clause-ok
returns-clause-ok c =
    let none : is_extension c.loop-rest.next ≡ false = sym c.extends.ensures ∙ c.loop-rest-test.false in
    c.loop-rest.invariant ∙ extension_none c.loop-rest.next c.loop-rest.rest.now none
