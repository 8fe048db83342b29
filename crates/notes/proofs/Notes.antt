-- What a note says, and the roles one by one.
use Prim.Native.Nat.{ℕ, zero, suc, ◌+◌, ◌-◌, ◌*◌, ◌/◌, ◌%◌, ◌≤◌, ◌<◌}
use mathlib.Core.Path.{◌≡◌, refl, ap, ◌∙◌}
use mathlib.Core.Bool.{Bool, true, false}
use mathlib.Core.List.{List}
use native.Mathlib.Omega.{arith}
use borrow.Author.Tests.{ne_eqb}
use lib.ListN.{length}
use lib.Seq.{slice}
use Rattle.grammar.specs.Said.{fact, name, number}
use Rattle.notes.specs.declared.Place as noted
use Rattle.notes.specs.declared.Place.TheVariants.{WantedAtStart, WantedOverAll, WantedAtEnd, SetAtStart, SetAtEnd, Reached, Given}
use Rattle.notes.specs.Notes.{value_in, line_in, role_in, name_at, name_end, numbered, named, roles, role_of, place_of, fact_role, said_in, item_in, Sound}

abbrev four : ℕ → ℕ
four z = suc (suc (suc (suc z)))

-- what holds of each role's number holds of every one
pub by_role :
    (P : ℕ → Type 0) → P 0 → P 1 → P 2 → P 3 → P 4 → P 5 → P 6 → P 7 → P 8 → P 9 → P 10 → P 11 → P 12 → P 13 → P 14 → P 15 → P 16 → P 17
    → P 18 → P 19 → P 20 → P 21 → (c : ℕ) → c < roles → P c
by_role P a b c d e f g h i j k l m n o p q r s t u v zero lt = a
by_role P a b c d e f g h i j k l m n o p q r s t u v (suc zero) lt = b
by_role P a b c d e f g h i j k l m n o p q r s t u v (suc (suc zero)) lt = c
by_role P a b c d e f g h i j k l m n o p q r s t u v (suc (suc (suc zero))) lt = d
by_role P a b c d e f g h i j k l m n o p q r s t u v (suc (suc (suc (suc z)))) lt = second z (omega arith)
  where
    fourth : (z : ℕ) → four (four (four (four z))) < roles → P (four (four (four (four z))))
    fourth zero lt = q
    fourth (suc zero) lt = r
    fourth (suc (suc zero)) lt = s
    fourth (suc (suc (suc zero))) lt = t
    fourth (suc (suc (suc (suc zero)))) lt = u
    fourth (suc (suc (suc (suc (suc zero))))) lt = v
    fourth (suc (suc (suc (suc (suc (suc z)))))) lt = absurd (omega arith)

    third : (z : ℕ) → four (four (suc (suc z))) < roles → P (four (four (suc (suc z))))
    third zero lt = k
    third (suc zero) lt = l
    third (suc (suc zero)) lt = m
    third (suc (suc (suc zero))) lt = n
    third (suc (suc (suc (suc zero)))) lt = o
    third (suc (suc (suc (suc (suc zero))))) lt = p
    third (suc (suc (suc (suc (suc (suc z)))))) lt = fourth z lt

    second : (z : ℕ) → four z < roles → P (four z)
    second zero lt = e
    second (suc zero) lt = f
    second (suc (suc zero)) lt = g
    second (suc (suc (suc zero))) lt = h
    second (suc (suc (suc (suc zero)))) lt = i
    second (suc (suc (suc (suc (suc zero))))) lt = j
    second (suc (suc (suc (suc (suc (suc z)))))) lt = third z lt

-- a fact's role
pub fact_role_is : (p : noted.Place) (v : Bool) → role_of (fact_role p v) ≡ fact (place_of p) v
unfolding role_of
fact_role_is WantedAtStart true = refl
fact_role_is WantedAtStart false = refl
fact_role_is WantedOverAll true = refl
fact_role_is WantedOverAll false = refl
fact_role_is WantedAtEnd true = refl
fact_role_is WantedAtEnd false = refl
fact_role_is SetAtStart true = refl
fact_role_is SetAtStart false = refl
fact_role_is SetAtEnd true = refl
fact_role_is SetAtEnd false = refl
fact_role_is Reached true = refl
fact_role_is Reached false = refl
fact_role_is Given true = refl
fact_role_is Given false = refl

-- a number reads back
pub number_says : (text : List ℕ) (n line : ℕ) → n < 4294967296 → line ≤ 65535 → item_in text (numbered n line) ≡ record { said = number n; line = line }
unfolding item_in said_in value_in line_in role_in numbered
number_says text n line h l =
    let r : (n + 4294967296 * line) / 281474976710656 ≡ 0 = omega arith in
    let v : (n + 4294967296 * line) % 4294967296 ≡ n = omega arith in
    let q : (n + 4294967296 * line) / 4294967296 ≡ line = omega arith in
    let l : line % 65536 ≡ line = omega arith in
    rw (r, v, q, l) refl

module _ (at end line role : ℕ) (p : at ≤ 65535) (q : at ≤ end) (r : end ≤ at + 31) (s : line ≤ 65535) where
  role_back : role_in (named at end line role) ≡ role
  unfolding role_in named
  role_back = omega arith

  line_back : line_in (named at end line role) ≡ line
  unfolding line_in named
  line_back = omega arith

  value_back : value_in (named at end line role) ≡ at + 65536 * (end - at)
  unfolding value_in named
  value_back = omega arith

  at_back : name_at (named at end line role) ≡ at
  unfolding name_at
  at_back = ap (λ v. v % 65536) value_back ∙ (let e : (at + 65536 * (end - at)) % 65536 ≡ at = omega arith in e)

  end_back : name_end (named at end line role) ≡ end
  unfolding name_end
  end_back =
      ap (λ v. v % 65536 + v / 65536) value_back
      ∙ (let e : (at + 65536 * (end - at)) % 65536 + (at + 65536 * (end - at)) / 65536 ≡ end = omega arith in e)

  -- a name reads back
  pub name_says :
      (text : List ℕ) → (role ≡ 0 → ⊥)
      → item_in text (named at end line role) ≡ record { said = name (role_of role) (slice at end text); line = line }
  unfolding item_in said_in
  name_says text h = rw (role_back, ne_eqb role 0 h, at_back, end_back, line_back) refl

  pub name_sound : (text : List ℕ) → role < roles → at < end → end ≤ length text → Sound text (named at end line role)
  name_sound text h l m = record {
    known = rw role_back h;
    begins = λ _. rw (at_back, end_back) l;
    inside = λ _. rw end_back m;
  }

pub number_sound : (text : List ℕ) (n line : ℕ) → n < 4294967296 → line ≤ 65535 → Sound text (numbered n line)
unfolding numbered role_in
number_sound text n line h l =
    let r : (n + 4294967296 * line) / 281474976710656 ≡ 0 = omega arith in
    record { known = omega arith; begins = λ f. absurd (f r); inside = λ f. absurd (f r) }
