-- A value among n rising numbers: where those at or above it begin, and where those at or below it end.
use mathlib.Core.Path.{◌≡◌, refl, sym, ap, ◌∙◌, subst}
use mathlib.Core.Bool.{Bool, true, false}
use Prim.Native.Nat.{ℕ, zero, suc, ◌+◌, ◌-◌, ◌<◌, ◌≤◌}
use native.Mathlib.Omega.{arith}
use lib.Dec.{ltb, leb}
use borrow.Author.Count.{below_more}
use borrow.Author.Tests.{ltb-true, ltb-false, leb-true, leb-false, lt-ltb, le-ltb, le-leb, lt-leb}

-- the numbers from `above` on, and no others, are at or above the value; those before `below`, and no others, at or below it
pub record Split (f : ℕ → ℕ) (v n : ℕ) : Type 0 where
  pub above : ℕ
  pub below : ℕ
  pub at_or_above : (k : ℕ) → k < n → leb v (f k) ≡ leb above k
  pub at_or_below : (k : ℕ) → k < n → leb (f k) v ≡ ltb k below
  pub order : above ≤ below
  pub close : below ≤ above + 1
  pub most : below ≤ n

module _ (f : ℕ → ℕ) (v n above below : ℕ) (upper : (k : ℕ) → k < n → leb v (f k) ≡ leb above k)
    (lower : (k : ℕ) → k < n → leb (f k) v ≡ ltb k below) where
  -- the same with one number more
  further : (a b : ℕ) → ((k : ℕ) → k < n → leb above k ≡ leb a k) → ((k : ℕ) → k < n → ltb k below ≡ ltb k b)
      → leb v (f n) ≡ leb a n → leb (f n) v ≡ ltb n b → a ≤ b → b ≤ a + 1 → b ≤ suc n → Split f v (suc n)
  further a b same_above same_below here_above here_below order close most = record {
    above = a;
    below = b;
    at_or_above = λ k h. below_more (λ k. leb v (f k) ≡ leb a k) n (λ k h. upper k h ∙ same_above k h) here_above k (omega arith);
    at_or_below = λ k h. below_more (λ k. leb (f k) v ≡ ltb k b) n (λ k h. lower k h ∙ same_below k h) here_below k (omega arith);
    order = order;
    close = close;
    most = most;
  }

pub split : (f : ℕ → ℕ) (v n : ℕ) → ((k : ℕ) → k + 1 < n → f k < f (k + 1)) → Split f v n
split f v zero rise =
    record {
      above = 0;
      below = 0;
      at_or_above = λ k h. absurd (omega arith);
      at_or_below = λ k h. absurd (omega arith);
      order = omega arith;
      close = omega arith;
      most = omega arith;
    }
split f v (suc n) rise = go (split f v n (λ k h. rise k (omega arith))) (leb (f n) v) refl (leb v (f n)) refl
  where
    -- where the new number is not above the value, no earlier one is at or above it
    all_under : (s : Split f v n) → f n ≤ v → (t : Bool) → ltb s.above n ≡ t → s.above ≡ n
    all_under s h true e =
        let l : s.above < n = ltb-true s.above n e in
        let g : v ≤ f (n - 1) = leb-true v (f (n - 1)) (s.at_or_above (n - 1) (omega arith) ∙ le-leb s.above (n - 1) (omega arith)) in
        let r : f (n - 1) < f n =
        subst (λ (j : ℕ). f (n - 1) < f j) (let z : n - 1 + 1 ≡ n = omega arith in z) (rise (n - 1) (omega arith)) in
        absurd (let z : ⊥ = omega arith in z)
    all_under s h false e = let l = ltb-false s.above n e in let o = s.order in let m = s.most in omega arith

    go : Split f v n → (t : Bool) → leb (f n) v ≡ t → (u : Bool) → leb v (f n) ≡ u → Split f v (suc n)
    go s false p u q =
        let h : v < f n = leb-false (f n) v p in
        let o = s.order in let m = s.most in
        further f v n s.above s.below s.at_or_above s.at_or_below s.above s.below (λ k g. refl) (λ k g. refl)
        (le-leb v (f n) (omega arith) ∙ sym (le-leb s.above n (omega arith))) (p ∙ sym (le-ltb n s.below m)) o s.close
        (omega arith)
    go s true p true q =
        let a : s.above ≡ n = all_under s (leb-true (f n) v p) (ltb s.above n) refl in
        let o = s.order in let m = s.most in
        further f v n s.above s.below s.at_or_above s.at_or_below n (suc n)
        (λ k g. ap (λ (j : ℕ). leb j k) a) (λ k g. lt-ltb k s.below (omega arith) ∙ sym (lt-ltb k (suc n) (omega arith)))
        (q ∙ sym (le-leb n n (omega arith))) (p ∙ sym (lt-ltb n (suc n) (omega arith))) (omega arith) (omega arith) (omega arith)
    go s true p false q =
        let a : s.above ≡ n = all_under s (leb-true (f n) v p) (ltb s.above n) refl in
        let o = s.order in let m = s.most in
        further f v n s.above s.below s.at_or_above s.at_or_below (suc n) (suc n)
        (λ k g. lt-leb s.above k (omega arith) ∙ sym (lt-leb (suc n) k (omega arith)))
        (λ k g. lt-ltb k s.below (omega arith) ∙ sym (lt-ltb k (suc n) (omega arith)))
        (q ∙ sym (lt-leb (suc n) n (omega arith))) (p ∙ sym (lt-ltb n (suc n) (omega arith))) (omega arith) (omega arith) (omega arith)
