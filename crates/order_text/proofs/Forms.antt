-- The three forms of what a link leads to, and the two of a text.
use Prim.Native.Nat.{ℕ, ◌-◌, ◌<◌, ◌≤◌}
use mathlib.Core.Path.{◌≡◌}
use mathlib.Core.Bool.{true, false}
use mathlib.Core.List.{List}
use borrow.Author.Tests.{lt-ltb, le-ltb, eq-eqb, ne_eqb}
use Rattle.spelling.specs.Keywords.{codes}
use Rattle.job.specs.Layout.{most_effects}
use Rattle.order_file.specs.Contents.{initial_state}
use Rattle.order_file.specs.Layout.{contents_of}
use Rattle.order_check.specs.WellFormed.{well_formed}
use Rattle.order_answers.specs.Answers.{no_order_file}
use Rattle.text.specs.Decimal.{field}
use Rattle.sheet.specs.Text.{refused_text}
use Rattle.order_text.specs.Text.{target_text, file_text, order_text}

-- the initial state, an effect, a timed fact
module _ (link : ℕ) where
  pub target_initial : link ≡ initial_state → target_text link ≡ codes " initial state"
  unfolding target_text
  target_initial e = simp (eq-eqb link initial_state e)

  module _ (n : link ≡ initial_state → ⊥) where
    pub target_effect : link < most_effects → target_text link ≡ field (codes " effect ") link
    unfolding target_text
    target_effect h = simp (ne_eqb link initial_state n, lt-ltb link most_effects h)

    pub target_timed : most_effects ≤ link → target_text link ≡ field (codes " timed fact ") (link - most_effects)
    unfolding target_text
    target_timed h = simp (ne_eqb link initial_state n, le-ltb link most_effects h)

-- an order file, and other bytes
module _ (b : List ℕ) where
  pub text_accepted : well_formed b ≡ true → order_text b ≡ file_text (contents_of b)
  unfolding order_text
  text_accepted e = simp e

  pub text_refused : well_formed b ≡ false → order_text b ≡ refused_text no_order_file 0
  unfolding order_text
  text_refused e = simp e
