-- What the arrays of a call's own hold while loops write them from the front. Assumes nothing.
use Rattle.std.specs.Prelude.{◌≡◌, refl, List, [], ◌∷◌, ◌++◌, map, ℕ, suc, ◌+◌, ◌≤◌, ◌<◌, length, take, drop, get_or, set, Float}
use Rattle.std.proofs.Common.{◌∙◌, append_assoc, ne_of_gt, add-one, arith, drop-cons, take-suc, take-suc-set, length-take-le, get_or-set_same, get_or-set_other}
use Rattle.std.proofs.lemmas.List.{map-append, length-map, set_at, get_or_at}
use Rattle.std.proofs.Math.Decide.{ℕ_discrete}
use Rattle.std.specs.Float.{nan}
use Rattle.chart.specs.Chart.{Chart}
use Rattle.points.specs.declared.Point2.{Point2}
use Rattle.turns.specs.Turn.{cell_corner}

-- the coordinates of the insertion cell's corner for listed edge k
abbrev pub corner_x : Chart → Point2 → List ℕ → ℕ → Float
corner_x c q list k = (cell_corner c q (get_or list k 0)).x

abbrev pub corner_y : Chart → Point2 → List ℕ → ℕ → Float
corner_y c q list k = (cell_corner c q (get_or list k 0)).y

-- an array holds f k at each k from a number on and below another
pub record Holds (f : ℕ → Float) (from upto : ℕ) (xs : List Float) : Type 0 where
  pub at : (k : ℕ) → from ≤ k → k < upto → get_or xs k nan ≡ f k

-- ---- an array that a loop writes from the front: one more element holds
pub holds-next : (f : ℕ → Float) (i : ℕ) (xs : List Float) → i < length xs → Holds f 0 i xs → Holds f 0 (i + 1) (set xs i (f i))
holds-next f i xs l h = record { at = λ k a b. choose k (ℕ_discrete k i) b }
  where
    choose : (k : ℕ) → Dec (k ≡ i) → k < i + 1 → get_or (set xs i (f i)) k nan ≡ f k
    choose k (yes e) b = rw e (get_or-set_same xs i (f i) nan l)
    choose k (no n) b = get_or-set_other xs i k (f i) nan n ∙ h.at k (omega arith) (omega arith)

-- from the one written over on, the others still hold
pub holds-past : (f : ℕ → Float) (i n : ℕ) (xs : List Float) (v : Float) → Holds f i n xs → Holds f (i + 1) n (set xs i v)
holds-past f i n xs v h =
    record { at = λ k a b. get_or-set_other xs i k v nan (ne_of_gt (omega arith)) ∙ h.at k (omega arith) b }

module _ {A : Type 0} (new next old : List A) (i : ℕ) (v d : A) where
  -- a new element after those written so far
  pub written : length new ≡ i → i < length old → next ≡ new ++ v ∷ [] → set (new ++ drop i old) i v ≡ next ++ drop (i + 1) old
  written l h e = rw (e, drop-cons old i d h, set_at new (get_or old i d) (drop (suc i) old) v i l, add-one, append_assoc)

-- what stands next has not been written yet
pub unwritten : {A : Type 0} (new old : List A) (i : ℕ) (d : A) → length new ≡ i → i < length old → get_or (new ++ drop i old) i d ≡ get_or old i d
unwritten new old i d l h = rw (drop-cons old i d h) (get_or_at new (get_or old i d) (drop (suc i) old) d i l)

-- the first elements, one more of them
pub first_next : {A : Type 0} (l : List A) (i : ℕ) (d : A) → i < length l → take (i + 1) l ≡ take i l ++ get_or l i d ∷ []
first_next l i d h = rw (add-one, take-suc l i d h)

-- and under a function
pub map_next : {A B : Type 0} (f : A → B) (l : List A) (i : ℕ) (d : A) → i < length l → map f (take (i + 1) l) ≡ map f (take i l) ++ f (get_or l i d) ∷ []
map_next f l i d h = rw (first_next l i d h, map-append)

pub length-map-take : {A B : Type 0} (f : A → B) (l : List A) (i : ℕ) → i ≤ length l → length (map f (take i l)) ≡ i
length-map-take f l i h = rw length-map (length-take-le i l h)

-- ---- f of a list's elements, written over the first elements of an array, which may be the list itself
pub put_next : {A B : Type 0} (f : A → B) (list : List A) (old now : List B) (i : ℕ) (d : A) (e : B) → i < length list → i < length old → now ≡ map f (take i list) ++ drop i old
    → set now i (f (get_or list i d)) ≡ map f (take (i + 1) list) ++ drop (i + 1) old
put_next f list old now i d e h k n = rw n (written (map f (take i list)) (map f (take (i + 1) list)) old i (f (get_or list i d)) e (length-map-take f list i (omega arith)) k (map_next f list i d h))

pub unput : {A : Type 0} (f : A → A) (list now : List A) (i : ℕ) (d : A) → i < length list → now ≡ map f (take i list) ++ drop i list → get_or now i d ≡ get_or list i d
unput f list now i d h n = rw n (unwritten (map f (take i list)) list i d (length-map-take f list i (omega arith)) h)

-- ---- one and two elements written at the front
pub one-first : {A : Type 0} (l : List A) (a : A) → 1 ≤ length l → take 1 (set l 0 a) ≡ a ∷ []
one-first [] a h = let z : ⊥ = omega arith in absurd z
one-first (x ∷ l) a h = refl

pub two-first : {A : Type 0} (l : List A) (a b : A) → 2 ≤ length l → take 2 (set (set l 0 a) 1 b) ≡ a ∷ b ∷ []
two-first [] a b h = let z : ⊥ = omega arith in absurd z
two-first (x ∷ []) a b h = let z : ⊥ = omega arith in absurd z
two-first (x ∷ (y ∷ l)) a b h = refl

-- arrays of one and of two elements, each written
pub one_only : {A : Type 0} (l : List A) (a : A) → length l ≡ 1 → set l 0 a ≡ a ∷ []
one_only [] a h = absurd (omega arith)
one_only (x ∷ []) a h = refl
one_only (x ∷ (y ∷ l)) a h = absurd (omega arith)

pub two_only : {A : Type 0} (l : List A) (a b : A) → length l ≡ 2 → set (set l 0 a) 1 b ≡ a ∷ b ∷ []
two_only [] a b h = absurd (omega arith)
two_only (x ∷ []) a b h = absurd (omega arith)
two_only (x ∷ (y ∷ [])) a b h = refl
two_only (x ∷ (y ∷ (z ∷ l))) a b h = absurd (omega arith)

-- ---- the outer loop's array: the corner read back from it
pub corner-back : (c : Chart) (q : Point2) (list : List ℕ) (i n : ℕ) (xs ys : List Float) → Holds (corner_x c q list) i n xs → Holds (corner_y c q list) 0 n ys
    → (k : ℕ) → i ≤ k → k < n → ◌≡◌ {A = Point2} (record { x = get_or xs k nan; y = get_or ys k nan }) (cell_corner c q (get_or list k 0))
corner-back c q list i n xs ys hx hy k a b = rw (hx.at k a b, hy.at k (omega arith) b)

-- one area more
pub area-next : (xs : List Float) (i : ℕ) (area : Float) → i < length xs → take (i + 1) (set xs i area) ≡ take i xs ++ area ∷ []
area-next xs i area h = rw (add-one, take-suc-set xs i area h)
