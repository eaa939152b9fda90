use Rattle.std.proofs.Common.{◌≡◌, Bool, true, false, ◌&&◌, Some, None, if◌then◌else◌, refl, sym, ap, ◌∙◌}
use Rattle.std.specs.Float.{binary64, Float, float_to_unsigned, minus_one, two_to}
use Rattle.std.specs.Float.Ieee.{mul, lt, of_bits, neg}
use Rattle.std.specs.Int.{w64}
use Rattle.serf_view.specs.RoundTrip.{a_billion, whole_of}
use Rattle.serf_view.proofs.estimate.nanoseconds.Goals as goal

-- the literals of the code
billion : of_bits binary64 0x41cd_cd65_0000_0000 ≡ a_billion
unfolding of_bits
billion = refl

minus : neg (of_bits binary64 0x3ff0_0000_0000_0000) ≡ minus_one
unfolding of_bits neg
minus = refl

top : of_bits binary64 0x43f0_0000_0000_0000 ≡ two_to 64
unfolding of_bits
top = refl

-- the code's test is that of `whole_of`
tested : (x : Float) → (lt (neg (of_bits binary64 0x3ff0_0000_0000_0000)) x && lt x (of_bits binary64 0x43f0_0000_0000_0000))
    ≡ (lt minus_one x && lt x (two_to 64))
tested x = ap (λ m. lt m x && lt x (of_bits binary64 0x43f0_0000_0000_0000)) minus ∙ ap (λ t. lt minus_one x && lt x t) top

whole : (x : Float) (b : Bool) → (lt (neg (of_bits binary64 0x3ff0_0000_0000_0000)) x && lt x (of_bits binary64 0x43f0_0000_0000_0000)) ≡ b
    → whole_of x ≡ (if b then Some (float_to_unsigned w64 x) else None)
whole x b e = ap (λ t. if t then Some (float_to_unsigned w64 x) else None) (sym (tested x) ∙ e)

pub returns-then-fits : goal.returns-then-fits
returns-then-fits c =
    let count = mul binary64 c.args.seconds (of_bits binary64 0x41cd_cd65_0000_0000) in
    ap Some c.saturating_f64_to_u64.ensures
    ∙ (sym (whole count true c.if-fits.true) ∙ ap (λ b. whole_of (mul binary64 c.args.seconds b)) billion)

pub returns-else-fits : goal.returns-else-fits
returns-else-fits c =
    let count = mul binary64 c.args.seconds (of_bits binary64 0x41cd_cd65_0000_0000) in
    sym (whole count false c.if-fits.false) ∙ ap (λ b. whole_of (mul binary64 c.args.seconds b)) billion
