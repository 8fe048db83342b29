-- A name at a reader: it lies in the text, is short enough to be noted, and its note says it.
use Prim.Native.Nat.{ℕ, ◌+◌, ◌≤◌, ◌<◌}
use mathlib.Core.Path.{◌≡◌, refl, sym, ap, ◌∙◌}
use mathlib.Core.Bool.{Bool, true, false, not}
use mathlib.Core.List.{List, [], ◌∷◌}
use native.Mathlib.Omega.{arith}
use lib.ListN.{length}
use lib.Seq.{slice, length-slice}
use borrow.Author.Tests.{leb-true, not-true, not-false}
use Rattle.laws.proofs.Search.{and_l}
use Rattle.spelling.specs.Tokens.{text_most, Token, mark, word, stop}
use Rattle.spelling.specs.Names.{is_name}
use Rattle.spelling.specs.Cursor.{here, is_such}
use Rattle.spelling.specs.declared.Cursor.{Cursor}
use Rattle.spelling.proofs.Standing.{some, word_here}
use Rattle.grammar.specs.Allowed.{depth_most}
use Rattle.grammar.specs.Said as say
use Rattle.grammar.specs.Reader.{name, bytes, goes, fails, step}
use Rattle.notes.specs.Notes.{named, roles, role_of, Sound}
use Rattle.notes.proofs.Notes.{name_says, name_sound}
use Rattle.token_reader.specs.Reading.{cursor_of, Stands, Reads, Notes}
use Rattle.token_reader.specs.declared.Reader.{Reader}

such_some : (p : List ℕ → Bool) (t : Token) → is_such p t ≡ true → some t ≡ true
unfolding is_such
such_some p (word w) e = refl
such_some p (mark m) e = e
such_some p stop e = e

-- what a name's bounds are
pub record Bounds (plan : Bool) (text : List ℕ) (r : Reader) : Type 0 where
  pub inside : r.at < length text
  pub spelt : here plan text (cursor_of r) ≡ word (slice r.at r.end text)
  pub short : r.end ≤ r.at + 31
  pub within : r.at ≤ text_most
  pub lined : r.line ≤ text_most

module _ (plan : Bool) (text : List ℕ) {r : Reader} {c : Cursor} {y : Bool} (p : Stands plan text r) (e : c ≡ cursor_of r)
    (n : y ≡ is_such is_name (here plan text c)) where
  same_name : y ≡ is_such is_name (here plan text (cursor_of r))
  same_name = n ∙ ap (λ k. is_such is_name (here plan text k)) e

  pub name_no : (s : say.Role) → not y ≡ true → step depth_most (name s) (here plan text (cursor_of r)) ≡ fails 18
  unfolding step
  name_no s f = rw (sym same_name ∙ not-true _ f)

  pub bounds : not y ≡ false → Bounds plan text r
  unfolding is_such is_name
  bounds f =
      let g = sym same_name ∙ not-false _ f in
      let w = word_here plan text (cursor_of r) (such_some is_name (here plan text (cursor_of r)) g) in
      let q : is_name (slice r.at r.end text) ≡ true = sym (ap (is_such is_name) w.1) ∙ g in
      let s = p.standing in
      let l : length (slice r.at r.end text) ≤ 31 = leb-true _ _ (and_l _ _ (and_l _ _ (and_l _ _ q))) in
      let m = rw (length-slice r.at r.end text s.within) at l in
      record {
        inside = w.0;
        spelt = w.1;
        short = omega (arith, s.onward);
        within = omega (arith, w.0, p.short);
        lined = omega (arith, w.0, p.short, s.lines);
      }

  pub name_reads :
      {list list' : List ℕ} {a : Reader} {w : ℕ} (role : ℕ) → not y ≡ false → (role ≡ 0 → ⊥) → w ≡ named r.at r.end r.line role
      → Notes plan text list r w list' a → Reads plan text list r (name (role_of role)) list' a
  unfolding step bytes
  name_reads {w} role f z v k =
      let b = bounds f in
      let x = say.name (role_of role) (slice r.at r.end text) in
      let g : step depth_most (name (role_of role)) (here plan text (cursor_of r)) ≡ goes [] (x ∷ []) =
      rw (sym same_name ∙ not-false _ f, b.spelt) refl in
      k _ x g (rw v (name_says r.at r.end r.line role b.within p.standing.onward b.short b.lined text z))

  pub named_sound : {w : ℕ} (role : ℕ) → not y ≡ false → role < roles → w ≡ named r.at r.end r.line role → Sound text w
  named_sound role f z v =
      let b = bounds f in
      let s = p.standing in
      rw v (name_sound r.at r.end r.line role b.within s.onward b.short b.lined text z (s.grows b.inside) s.within)
