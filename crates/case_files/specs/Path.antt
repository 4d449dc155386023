-- The path of a file in a case folder.
use Rattle.std.specs.Prelude.{ℕ, List, [], ◌∷◌, ◌++◌}

-- The folder's name, a slash and the file's name; nothing where the folder has no name (it would be the root).
abbrev pub path_of : List ℕ → List ℕ → List ℕ
path_of [] file = []
path_of (b ∷ folder) file = (b ∷ folder) ++ (47 ∷ []) ++ file
