-- What is read of a file in a case folder.
use Rattle.std.specs.Prelude.{ℕ, List, [], take, ◌≡◌, ◌⊎◌}

-- Of known bytes, the first, up to a limit; or none, where a read fails.
abbrev pub FrontOrNone : ℕ → List ℕ → List ℕ → Type 0
FrontOrNone limit bytes text = (text ≡ take limit bytes) ⊎ (text ≡ [])
