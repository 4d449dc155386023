-- On an accepted chart the last component sum is above 0 at every vertex: of the out half-edge and the one after it one is inner, and its triangle turns
-- left. So the division is never by 0, and the case of +0, +0 never comes. Assumes nothing.
use Rattle.std.specs.Prelude.{◌≡◌, Bool, true, false, cond, List, [], ◌∷◌, pos}
use Rattle.std.proofs.Math.Path.{refl}
use Rattle.std.proofs.Common.{subst}
use Rattle.std.proofs.Math.IntN.{+ℤ_comm}
use Rattle.std.specs.Int.Signed.{lt_z}
use Rattle.signs.specs.Signs.{Pos, High}
use Rattle.signs.specs.Order.{pos-high, test-pos, pos-test, add-high, add-pos}
use Rattle.gradient.specs.Turn.{over_pairs}
use Rattle.gradient.specs.Sums.{Vector, whole_normal, whole_plus, whole_add, whole_pair}

-- ---- a sum of normals that point up
module _ (s m : Vector) where
  -- stays not below 0
  pub add_low : High s.z → High (whole_add s m).z
  add_low h = pick (lt_z (pos 0) m.z) refl
    where
      pick : (b : Bool) → lt_z (pos 0) m.z ≡ b → High (cond b (whole_plus s m) s).z
      pick true e = add-high h (pos-high (test-pos e))
      pick false e = h

  -- stays above 0
  add-keeps : Pos s.z → Pos (whole_add s m).z
  add-keeps h = pick (lt_z (pos 0) m.z) refl
    where
      pick : (b : Bool) → lt_z (pos 0) m.z ≡ b → Pos (cond b (whole_plus s m) s).z
      pick true e = add-pos h (pos-high (test-pos e))
      pick false e = h

  -- and one that points up brings it above 0
  pub add-above : High s.z → Pos m.z → Pos (whole_add s m).z
  add-above h k = rw (pos-test k) (subst Pos (+ℤ_comm m.z s.z) (add-pos k h))

-- over all pairs
pub over-keeps : (v first s last : Vector) (ps : List Vector) → Pos s.z → Pos (over_pairs (whole_pair v) first s last ps).z
unfolding over_pairs
over-keeps v first s last [] h = add-keeps s (whole_normal v last first) h
over-keeps v first s last (p ∷ ps) h = over-keeps v first (whole_pair v s last p) p ps (add-keeps s (whole_normal v last p) h)
