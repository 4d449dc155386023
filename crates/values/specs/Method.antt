-- The methods by their numbers: 1 barycentric, 2 natural, 3 with gradients; 0 stands for any other.
use Rattle.std.specs.Prelude.{ℕ, Option, None, Some}
use Rattle.values.specs.declared.Method.{Method}
use Rattle.values.specs.declared.Method.TheVariants.{Barycentric, Natural, WithGradients}

abbrev pub number_of : Method → ℕ
number_of Barycentric = 1
number_of Natural = 2
number_of WithGradients = 3

abbrev pub known : Option Method → ℕ
known None = 0
known (Some m) = number_of m
