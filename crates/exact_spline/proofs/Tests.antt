-- What a choice by a test gives, where the test is known.
use mathlib.Core.Path.{◌≡◌, refl}
use mathlib.Core.Bool.{Bool, true, false, cond}

pub cond_true : {X : Type 0} (b : Bool) (p q : X) → b ≡ true → cond b p q ≡ p
cond_true b p q e = rw e refl

pub cond_false : {X : Type 0} (b : Bool) (p q : X) → b ≡ false → cond b p q ≡ q
cond_false b p q e = rw e refl
