-- What a token says is noted: one item more, and the list is ready for the next.
use Prim.Native.Nat.{ℕ, ◌+◌, ◌≤◌, ◌<◌}
use mathlib.Core.Path.{◌≡◌, refl, sym, ◌∙◌}
use mathlib.Core.Logic.{inl}
use mathlib.Core.Bool.{Bool}
use mathlib.Core.List.{List, [], ◌∷◌, ◌++◌, map-append}
use native.Mathlib.Omega.{arith}
use native.Mathlib.Decide.{ℕ_discrete}
use native.Mathlib.Numerals.{add-one}
use lib.ListN.{length, get_or, set, take, length-set}
use lib.Seq.{take-suc-set, get_or-set_same, get_or-set_other}
use Rattle.std.specs.Prelude.{None}
use Rattle.grammar.specs.Said.{on_line}
use Rattle.notes.specs.Notes.{item_in, Sound}
use Rattle.token_reader.specs.Reading.{fault_of, heard, Listed, Ready, Advanced, Notes}
use Rattle.token_reader.specs.declared.Reader.{Reader}
use Rattle.token_reader.proofs.Steps.{outcome_clear, led}

-- the reader that has noted one item more
abbrev noting : Reader → ℕ → Reader
noting a count = record { at = a.at; end = a.end; line = a.line; count = count + 1; fault = None }

module _ (text list : List ℕ) (count w : ℕ) where
  heard_set : count < length list → heard text (count + 1) (set list count w) ≡ heard text count list ++ (item_in text w ∷ [])
  unfolding heard
  heard_set h = rw (add-one count, take-suc-set list count w h) (map-append (item_in text) (take count list) (w ∷ []))

  listed_more : Listed text list count → count < length list → Sound text w → Listed text (set list count w) (count + 1)
  listed_more l h s = record { room = rw (length-set list count w) l.room; sound = each; zeros = after }
    where
      each : (k : ℕ) → k < count + 1 → Sound text (get_or (set list count w) k 0)
      each k q =
          elim (ℕ_discrete k count) [
            | yes e ↦ rw (e, get_or-set_same list count w 0 h) s
            | no e ↦ rw (get_or-set_other list count k w 0 e) (l.sound k (omega arith))
          ]

      after : (k : ℕ) → count + 1 ≤ k → get_or (set list count w) k 0 ≡ 0
      after k q = get_or-set_other list count k w 0 (λ e. omega arith) ∙ l.zeros k (omega arith)

module _ (plan : Bool) (text list : List ℕ) (r : Reader) (p : Ready plan text list r) where
  pub noting_room : r.count < length list
  noting_room =
      let s = p.stands.standing in
      omega (arith, p.stands.few, p.listed.room, s.onward, s.within)

  pub noted :
      (w : ℕ) {a : Reader} → fault_of r ≡ 0 → Sound text w → Advanced plan text r a
      → Notes plan text list r w (set list r.count w) (noting a r.count)
  unfolding on_line
  noted w {a} e s v k x g i =
      let few : r.count + 1 ≤ a.at = omega (arith, p.stands.few, v.further) in
      record {
        ready = record {
          stands = record { short = p.stands.short; standing = v.stands.standing; few = few; fault = inl refl };
          listed = listed_more text list r.count w p.listed noting_room s;
        };
        size = length-set list r.count w;
        onward = omega (arith, v.further);
        further = λ _. v.further;
        same = λ σ.
            led plan text list r k [] σ (x ∷ []) p.stands e g
            ∙ rw (v.same, ← i, ← heard_set text list r.count w noting_room)
            (sym (outcome_clear plan text (set list r.count w) (noting a r.count) σ refl));
      }
