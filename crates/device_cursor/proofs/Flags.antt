-- Flags laid over each other: one is up where not all of the tests hold.
use mathlib.Core.Path.{◌≡◌, refl}
use mathlib.Core.Bool.{Bool, true, false, not, ◌&&◌, ◌||◌}

pub flags_of_two : (a b : Bool) → (not a || not b) ≡ not (a && b)
flags_of_two true b = refl
flags_of_two false b = refl

pub flags_of_four : (a b c d : Bool) → (not a || not b || not c || not d) ≡ not (a && (b && (c && d)))
flags_of_four false b c d = refl
flags_of_four true false c d = refl
flags_of_four true true false d = refl
flags_of_four true true true d = refl

pub flag_and_four : (flag a b c d : Bool) → (flag || (a || b || c || d)) ≡ (flag || a || b || c || d)
flag_and_four true a b c d = refl
flag_and_four false a b c d = refl

-- four flags over four others, each over its own
pub flags_over_flags : (p q r s a b c d : Bool)
    → ((p || q || r || s) || (a || b || c || d)) ≡ ((p || a) || (q || b) || (r || c) || (s || d))
flags_over_flags true q r s a b c d = refl
flags_over_flags false true r s true b c d = refl
flags_over_flags false true r s false b c d = refl
flags_over_flags false false true s true b c d = refl
flags_over_flags false false true s false true c d = refl
flags_over_flags false false true s false false c d = refl
flags_over_flags false false false true true b c d = refl
flags_over_flags false false false true false true c d = refl
flags_over_flags false false false true false false true d = refl
flags_over_flags false false false true false false false d = refl
flags_over_flags false false false false a b c d = refl
