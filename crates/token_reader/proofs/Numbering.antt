-- A number at a reader: what is spelt there is what the symbol says.
use Prim.Native.Nat.{ℕ, ◌≤◌, ◌<◌}
use mathlib.Core.Path.{◌≡◌, refl, sym, ap, ◌∙◌}
use mathlib.Core.Bool.{Bool, true, false, cond}
use mathlib.Core.List.{List, [], ◌∷◌}
use native.Mathlib.Omega.{arith}
use lib.ListN.{length}
use Rattle.std.specs.Prelude.{Option, Some, None}
use Rattle.spelling.specs.Tokens.{text_most, Token, mark, word, stop}
use Rattle.spelling.specs.Numbers.{is_whole, is_time, spelled, ticks, whole_of, time_of}
use Rattle.spelling.specs.Cursor.{here, is_such, whole_at, time_at}
use Rattle.spelling.specs.declared.Cursor.{Cursor}
use Rattle.grammar.specs.Allowed.{depth_most}
use Rattle.grammar.specs.Said.{number}
use Rattle.grammar.specs.Reader.{time, amount, Symbol, bytes, goes, fails, step}
use Rattle.notes.specs.Notes.{numbered, Sound}
use Rattle.notes.proofs.Notes.{number_says, number_sound}
use Rattle.token_reader.specs.Reading.{cursor_of, Stands, Reads, Notes}
use Rattle.token_reader.specs.declared.Reader.{Reader}
use Rattle.token_reader.proofs.Tested.{such_inside}

spelt_some : (y : Bool) (m n : ℕ) → cond y (Some m) None ≡ Some n → (y ≡ true) × (m ≡ n)
spelt_some true m n e = (refl, cc)
spelt_some false m n e = absurd (let z : ◌≡◌ {A = ℕ} 0 1 = cc in omega arith)

spelt_none : (y : Bool) (m : ℕ) → cond y (Some m) None ≡ None → y ≡ false
spelt_none true m e = absurd (let z : ◌≡◌ {A = ℕ} 0 1 = cc in omega arith)
spelt_none false m e = refl

no_number : (n : ℕ) {A : Type 0} → None ≡ Some n → A
no_number n e = absurd (let z : ◌≡◌ {A = ℕ} 0 1 = cc in omega arith)

time_some : (t : Token) (n : ℕ) → time_at t ≡ Some n → (is_such is_time t ≡ true) × (ticks (bytes t) ≡ n)
unfolding time_at time_of is_such bytes
time_some (word w) n e = spelt_some (is_time w) (ticks w) n e
time_some (mark m) n e = no_number n e
time_some stop n e = no_number n e

time_none : (t : Token) → time_at t ≡ None → is_such is_time t ≡ false
unfolding time_at time_of is_such
time_none (word w) e = spelt_none (is_time w) (ticks w) e
time_none (mark m) e = refl
time_none stop e = refl

whole_some : (t : Token) (n : ℕ) → whole_at t ≡ Some n → (is_such is_whole t ≡ true) × (spelled (bytes t) ≡ n)
unfolding whole_at whole_of is_such bytes
whole_some (word w) n e = spelt_some (is_whole w) (spelled w) n e
whole_some (mark m) n e = no_number n e
whole_some stop n e = no_number n e

whole_none : (t : Token) → whole_at t ≡ None → is_such is_whole t ≡ false
unfolding whole_at whole_of is_such
whole_none (word w) e = spelt_none (is_whole w) (spelled w) e
whole_none (mark m) e = refl
whole_none stop e = refl

pub lines_fit : {plan : Bool} {text : List ℕ} {r : Reader} → Stands plan text r → r.line ≤ text_most
lines_fit p = let s = p.standing in omega (arith, p.short, s.lines, s.onward, s.within)

-- a number has been noted
module _ {plan : Bool} {text : List ℕ} {r : Reader} {n w : ℕ} (p : Stands plan text r) (h : n < 4294967296) (v : w ≡ numbered n r.line) where
  pub numbered_sound : Sound text w
  numbered_sound = rw v (number_sound text n r.line h (lines_fit p))

  numbered_reads :
      {list list' : List ℕ} {a : Reader} (s : Symbol) → step depth_most s (here plan text (cursor_of r)) ≡ goes [] (number n ∷ [])
      → Notes plan text list r w list' a → Reads plan text list r s list' a
  numbered_reads s g k = k s (number n) g (rw v (number_says text n r.line h (lines_fit p)))

module _ (plan : Bool) (text : List ℕ) {r : Reader} {c : Cursor} (p : Stands plan text r) (e : c ≡ cursor_of r) where
  module _ {x : Option ℕ} (k : x ≡ time_at (here plan text c)) where
    time_here : x ≡ time_at (here plan text (cursor_of r))
    time_here = k ∙ ap (λ d. time_at (here plan text d)) e

    pub time_inside : {n : ℕ} → x ≡ Some n → r.at < length text
    time_inside {n} f = such_inside plan text (cursor_of r) is_time (time_some _ n (sym time_here ∙ f)).0

    pub time_no : x ≡ None → step depth_most time (here plan text (cursor_of r)) ≡ fails 18
    unfolding step
    time_no f = rw (time_none _ (sym time_here ∙ f))

    pub time_reads :
        {list list' : List ℕ} {a : Reader} {n w : ℕ} → x ≡ Some n → n < 4294967296 → w ≡ numbered n r.line
        → Notes plan text list r w list' a → Reads plan text list r time list' a
    unfolding step
    time_reads {n} f h v m =
        let q = time_some _ n (sym time_here ∙ f) in
        numbered_reads p h v time (rw (q.0, q.1) refl) m

  module _ {x : Option ℕ} (k : x ≡ whole_at (here plan text c)) where
    whole_here : x ≡ whole_at (here plan text (cursor_of r))
    whole_here = k ∙ ap (λ d. whole_at (here plan text d)) e

    pub whole_inside : {n : ℕ} → x ≡ Some n → r.at < length text
    whole_inside {n} f = such_inside plan text (cursor_of r) is_whole (whole_some _ n (sym whole_here ∙ f)).0

    pub whole_no : x ≡ None → step depth_most amount (here plan text (cursor_of r)) ≡ fails 18
    unfolding step
    whole_no f = rw (whole_none _ (sym whole_here ∙ f))

    pub whole_reads :
        {list list' : List ℕ} {a : Reader} {n w : ℕ} → x ≡ Some n → n < 4294967296 → w ≡ numbered n r.line
        → Notes plan text list r w list' a → Reads plan text list r amount list' a
    unfolding step
    whole_reads {n} f h v m =
        let q = whole_some _ n (sym whole_here ∙ f) in
        numbered_reads p h v amount (rw (q.0, q.1) refl) m
