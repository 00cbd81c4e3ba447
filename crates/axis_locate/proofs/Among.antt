-- On rising knots two numbers say how a point lies among them; the search and the rule of the cell both come to these.
use mathlib.Core.Path.{◌≡◌, refl, sym, ap, ◌∙◌, subst}
use mathlib.Core.List.{List}
use mathlib.Core.Bool.{Bool, true, false, cond, ◌&&◌}
use Prim.Native.Nat.{ℕ, zero, suc, ◌+◌, ◌-◌, ◌^◌, min, ◌<◌, ◌≤◌}
use native.Mathlib.Omega.{arith}
use lib.Dec.{ltb, leb}
use lib.ListN.{length}
use borrow.Author.Tests.{ltb-true, ltb-false, leb-true, leb-false, lt-ltb, le-ltb, le-leb, lt-leb}
use lib.Ieee.{Float, lt, le}
use Rattle.rules.specs.Numbers.{at}
use Rattle.rules.specs.Locate.{first_at_or_above, locate}
use Rattle.rules.specs.Outside.{side, nearest}
use Rattle.base_floats.specs.Place.{place, Real, AllFit}
use Rattle.base_floats.proofs.Reals.{lt_is, le_is}
use Rattle.rules.specs.Search.{middle, halving, most_halvings, one_back, rust_index, lower_index}
use Rattle.rules.specs.declared.Side.TheVariants.{Below, Inside, Above}
use Rattle.axis_locate.specs.CellFound.{Rising}
use Rattle.axis_locate.proofs.Split.{Split, split}
use Rattle.rules.proofs.Halving.{half, halving_ends, halving_down, halving_up}

-- ---- n knots, and a point among them

-- the knots from `above` on, and no others, are at or above the point; those before `below`, and no others, at or below it
pub record Among (knots : List Float) (point : Float) (n : ℕ) : Type 0 where
  pub above : ℕ
  pub below : ℕ
  pub at_or_above : (k : ℕ) → k < n → le point (at knots k) ≡ leb above k
  pub at_or_below : (k : ℕ) → k < n → le (at knots k) point ≡ ltb k below
  pub before : (k : ℕ) → k < n → lt point (at knots k) ≡ leb below k
  pub order : above ≤ below
  pub close : below ≤ above + 1

less_not : (a b : ℕ) (i j : ℕ) → leb b a ≡ ltb i j → ltb a b ≡ leb j i
less_not a b i j e = go (ltb i j) refl
  where
    go : (t : Bool) → ltb i j ≡ t → ltb a b ≡ leb j i
    go true p = le-ltb a b (leb-true b a (e ∙ p)) ∙ sym (lt-leb j i (ltb-true i j p))
    go false p = lt-ltb a b (leb-false b a (e ∙ p)) ∙ sym (le-leb j i (ltb-false i j p))

module _ (knots : List Float) (point : Float) (n : ℕ) (R : Rising knots n) (F : AllFit knots) (P : Real point) where
  real : (k : ℕ) → k < n → Real (at knots k)
  real k h = record { fits = F k; finite = R.finite k h }

  among : Among knots point n
  among =
      let s : Split (λ k. place (at knots k)) (place point) n = split (λ k. place (at knots k)) (place point) n
      (λ k h.
      ltb-true (place (at knots k)) (place (at knots (k + 1)))
      (sym (lt_is (at knots k) (at knots (k + 1)) (real k (omega arith)) (real (k + 1) h)) ∙ R.rise k h)) in
      record {
        above = s.above;
        below = s.below;
        at_or_above = λ k h. le_is point (at knots k) P (real k h) ∙ s.at_or_above k h;
        at_or_below = λ k h. le_is (at knots k) point (real k h) P ∙ s.at_or_below k h;
        before =
            λ k h. lt_is point (at knots k) P (real k h) ∙ less_not (place point) (place (at knots k)) k s.below (s.at_or_below k h);
        order = s.order;
        close = s.close;
      }

-- ---- what the search and the rule come to

module _ (knots : List Float) (point : Float) (last : ℕ) (A : Among knots point (suc last)) where
  halving_finds : (d low high : ℕ) → high - low < 2 ^ d → low ≤ A.above → A.above ≤ high → high ≤ last
      → halving knots point d low high ≡ A.above
  halving_finds zero low high w a b h =
      let z : 2 ^ 0 ≡ 1 = refl in halving_ends knots point 0 low high (omega arith) ∙ (let e : low ≡ A.above = omega arith in e)
  halving_finds (suc d) low high w a b h =
      go (ltb low high) refl (leb A.above (middle low high)) refl
      (λ g. let z = half d (high - low) w in halving_finds d low (middle low high) (omega arith) a g (omega arith))
      (λ g. let z = half d (high - low) w in halving_finds d (middle low high + 1) high (omega arith) (omega arith) b h)
    where
      go : (t : Bool) → ltb low high ≡ t → (u : Bool) → leb A.above (middle low high) ≡ u
          → (A.above ≤ middle low high → halving knots point d low (middle low high) ≡ A.above)
          → (middle low high < A.above → halving knots point d (middle low high + 1) high ≡ A.above)
          → halving knots point (suc d) low high ≡ A.above
      go false p u q down up =
          let g = ltb-false low high p in halving_ends knots point (suc d) low high g ∙ (let e : low ≡ A.above = omega arith in e)
      go true p true q down up =
          let l : low < high = ltb-true low high p in
          halving_down knots point d low high l (A.at_or_above (middle low high) (omega arith) ∙ q)
          ∙ down (leb-true A.above (middle low high) q)
      go true p false q down up =
          let l : low < high = ltb-true low high p in
          halving_up knots point d low high l (A.at_or_above (middle low high) (omega arith) ∙ q)
          ∙ up (leb-false A.above (middle low high) q)

  first_finds : (d k : ℕ) → k ≤ A.above → A.above ≤ k + d → k + d ≤ last → first_at_or_above knots point d k ≡ A.above
  unfolding first_at_or_above
  first_finds zero k a b h = omega arith
  first_finds (suc d) k a b h =
      ap (λ (t : Bool). elim t [ true ↦ k | false ↦ first_at_or_above knots point d (suc k) ]) (A.at_or_above k (omega arith))
      ∙ go (leb A.above k) refl (λ g. first_finds d (suc k) g (omega arith) (omega arith))
    where
      go : (t : Bool) → leb A.above k ≡ t → (k < A.above → first_at_or_above knots point d (suc k) ≡ A.above)
          → elim t [ true ↦ k | false ↦ first_at_or_above knots point d (suc k) ] ≡ A.above
      go true p next = let g = leb-true A.above k p in omega arith
      go false p next = next (leb-false A.above k p)

  -- the tests at the first and the last knot, before any search
  ends_first : (inner : ℕ) → (A.above ≤ last → inner ≡ A.above - 1)
      → cond (lt point (at knots 0)) 0 (cond (le (at knots last) point) (last - 1) inner) ≡ min (A.above - 1) (last - 1)
  ends_first inner found =
      (cc (A.before 0 (omega arith), A.at_or_below last (omega arith))) ∙ go (leb A.below 0) refl (ltb last A.below) refl
    where
      go : (t : Bool) → leb A.below 0 ≡ t → (u : Bool) → ltb last A.below ≡ u
          → cond t 0 (cond u (last - 1) inner) ≡ min (A.above - 1) (last - 1)
      go true p u q = let b = leb-true A.below 0 p in let o = A.order in omega arith
      go false p true q = let b = ltb-true last A.below q in let c = A.close in omega arith
      go false p false q = let b = ltb-false last A.below q in let o = A.order in let f = found (omega arith) in omega arith

  pub locate_is : locate knots last point ≡ min (A.above - 1) (last - 1)
  unfolding locate
  locate_is =
      ends_first (first_at_or_above knots point last 0 - 1)
      (λ h. ap (λ (k : ℕ). k - 1) (first_finds last 0 (omega arith) (omega arith) (omega arith)))

  one_back_is : A.above ≤ last → one_back knots point A.above ≡ A.above - 1
  unfolding one_back
  one_back_is h =
      ap (λ (t : Bool). cond (ltb 0 A.above && t) (A.above - 1) A.above)
      (A.at_or_above A.above (omega arith) ∙ le-leb A.above A.above (omega arith))
      ∙ go (ltb 0 A.above) refl
    where
      go : (t : Bool) → ltb 0 A.above ≡ t → cond (t && true) (A.above - 1) A.above ≡ A.above - 1
      go true p = refl
      go false p = let z = ltb-false 0 A.above p in omega arith

  module _ (count : length knots ≡ suc last) where
    lower_index_is : last < 256 → lower_index knots point ≡ min (A.above - 1) (last - 1)
    unfolding lower_index rust_index
    lower_index_is few =
        let e : length knots - 1 ≡ last = omega arith in
        let g : length knots - 2 ≡ last - 1 = omega arith in
        let inner = one_back knots point (halving knots point most_halvings 0 last) in
        let z : 2 ^ 8 ≡ 256 = refl in
        let found : A.above ≤ last → inner ≡ A.above - 1 =
        λ h.
        ap (one_back knots point) (halving_finds most_halvings 0 last (omega arith) (omega arith) h (omega arith)) ∙ one_back_is h in
        (cc (e, g, ends_first inner found))
        ∙ (let y : min (min (A.above - 1) (last - 1)) (last - 1) ≡ min (A.above - 1) (last - 1) = omega arith in y)

-- ---- the laws

module _ (knots : List Float) (point : Float) (n : ℕ) (R : Rising knots n) (F : AllFit knots) (P : Real point) (some : 2 ≤ n) where
  -- all of it with the last knot's index for n - 1
  pub placed : Among knots point (suc (n - 1))
  placed = subst (Among knots point) (let e : n ≡ suc (n - 1) = omega arith in e) (among knots point n R F P)

  counted : length knots ≡ suc (n - 1)
  counted = let c = R.count in omega arith

  -- the search finds the cell of the rules
  pub lower_index_is_locate : n ≤ 256 → lower_index knots point ≡ locate knots (n - 1) point
  lower_index_is_locate few = lower_index_is knots point (n - 1) placed counted (omega arith) ∙ sym (locate_is knots point (n - 1) placed)

-- ---- the end knots

module _ (knots : List Float) (n : ℕ) (R : Rising knots n) (F : AllFit knots) (some : 2 ≤ n) where
  real_knot : (k : ℕ) → k < n → Real (at knots k)
  real_knot = real knots (at knots 0) n R F (record { fits = F 0; finite = R.finite 0 (omega arith) })

  at_itself : (k : ℕ) → k < n → le (at knots k) (at knots k) ≡ true
  at_itself k h =
      let r = real_knot k h in
      le_is (at knots k) (at knots k) r r ∙ le-leb (place (at knots k)) (place (at knots k)) (omega arith)

  first_cell : locate knots (n - 1) (at knots 0) ≡ 0
  first_cell =
      let a = placed knots (at knots 0) n R F (real_knot 0 (omega arith)) some in
      let above = leb-true a.above 0 (sym (a.at_or_above 0 (omega arith)) ∙ at_itself 0 (omega arith)) in
      locate_is knots (at knots 0) (n - 1) a ∙ (let e : min (a.above - 1) (n - 1 - 1) ≡ 0 = omega arith in e)

  last_cell : locate knots (n - 1) (at knots (n - 1)) ≡ n - 1 - 1
  last_cell =
      let a = placed knots (at knots (n - 1)) n R F (real_knot (n - 1) (omega arith)) some in
      let below = ltb-true (n - 1) a.below (sym (a.at_or_below (n - 1) (omega arith)) ∙ at_itself (n - 1) (omega arith)) in
      locate_is knots (at knots (n - 1)) (n - 1) a ∙ (let e : min (a.above - 1) (n - 1 - 1) ≡ n - 1 - 1 = omega (arith, a.close) in e)

  module _ (point : Float) (P : Real point) where
    beyond : lt (at knots (n - 1)) point ≡ true → le (at knots (n - 1)) point ≡ true
    beyond e =
        let r = real_knot (n - 1) (omega arith) in
        let l = ltb-true (place (at knots (n - 1))) (place point) (sym (lt_is (at knots (n - 1)) point r P) ∙ e) in
        le_is (at knots (n - 1)) point r P ∙ le-leb (place (at knots (n - 1))) (place point) (omega arith)

    in_first : lt point (at knots 0) ≡ true → locate knots (n - 1) point ≡ 0
    unfolding locate
    in_first e = rw e refl

    in_last : lt point (at knots 0) ≡ false → le (at knots (n - 1)) point ≡ true → locate knots (n - 1) point ≡ n - 1 - 1
    unfolding locate
    in_last e f = rw (e, f) refl

    -- a point outside lies in the cell of the end knot that is nearest to it
    pub cell_of_nearest : locate knots (n - 1) (nearest (side knots point) knots point) ≡ locate knots (n - 1) point
    unfolding side
    cell_of_nearest = rw R.count (go (lt point (at knots 0)) refl (lt (at knots (n - 1)) point) refl)
      where
        go : (b : Bool) → lt point (at knots 0) ≡ b → (c : Bool) → lt (at knots (n - 1)) point ≡ c
            → locate knots (n - 1) (nearest (cond b Below (cond c Above Inside)) knots point) ≡ locate knots (n - 1) point
        go true e c f = first_cell ∙ sym (in_first e)
        go false e true f = rw R.count (last_cell ∙ sym (in_last e (beyond f)))
        go false e false f = refl
