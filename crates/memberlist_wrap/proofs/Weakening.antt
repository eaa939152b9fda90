-- What a result means, weakened.
use Rattle.std.proofs.Common.{Result, Ok, Err, IfErr, IfOk}

pub IfErr-weaker : {T E : Type 0} {P Q : E → Type 0} (r : Result T E) → IfErr r P → ((e : E) → P e → Q e) → IfErr r Q
IfErr-weaker (Ok x) p f = tt
IfErr-weaker (Err e) p f = f e p

pub IfOk-weaker : {T E : Type 0} {P Q : T → Type 0} (r : Result T E) → IfOk r P → ((x : T) → P x → Q x) → IfOk r Q
IfOk-weaker (Ok x) p f = f x p
IfOk-weaker (Err e) p f = tt
