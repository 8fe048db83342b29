-- Inner: an effect of a step as one number, and which two numbers set a fact both ways.
use Rattle.std.specs.Prelude.{ℕ, ◌+◌, ◌*◌, ◌-◌, ◌/◌, ◌%◌, Bool, eqb}
use Rattle.job.specs.declared.records.Effect.{Effect}
use Rattle.job.specs.Model.{Model, effect_of}

-- how many offsets there are at most
abbrev pub at_span : ℕ
at_span = 131072

unfoldable pub key_of : Effect → ℕ
key_of e = (e.fact * at_span + e.at) * 2 + e.value

abbrev pub effect_key : Model → ℕ → ℕ
effect_key m k = key_of (effect_of m k)

-- the key with the other value
unfoldable pub opposite : ℕ → ℕ
opposite key = key / 2 * 2 + (1 - key % 2)

abbrev pub opposed : ℕ → ℕ → Bool
opposed a b = eqb b (opposite a)
