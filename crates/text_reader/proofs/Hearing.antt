-- The whole of a text: its length, its first token, and what the list notes.
use Prim.Native.Nat.{ℕ, ◌≤◌, ◌<◌}
use mathlib.Core.Path.{◌≡◌, refl, sym, ap, subst, ◌∙◌}
use mathlib.Core.Logic.{inl, inr}
use mathlib.Core.Bool.{Bool, true, false}
use mathlib.Core.List.{List, [], ◌∷◌, map}
use native.Mathlib.Omega.{arith}
use native.Mathlib.Decide.{dec_lt}
use lib.ListN.{length, get_or, take, length-map, get_or-map, get_or-eq_default}
use lib.Seq.{length-take-le, get_or-take}
use borrow.Author.Tests.{lt-ltb, le-ltb}
use Rattle.std.specs.Prelude.{Some, None}
use Rattle.token_reader.specs.declared.Fault.TheVariants.{OutsideGrammar}
use Rattle.spelling.specs.Tokens.{text_most, tokens}
use Rattle.spelling.specs.Cursor.{First}
use Rattle.spelling.specs.declared.Cursor.{Cursor}
use Rattle.grammar.specs.Allowed.{depth_most}
use Rattle.grammar.specs.Reader.{Symbol, text, lines, refused, run, Outcome}
use Rattle.grammar.specs.Reading.{action_reading, plan_reading}
use Rattle.notes.specs.Notes.{notes_most, nothing, item_in, numbered, Sound, Noted}
use Rattle.notes.proofs.Notes.{number_says, number_sound}
use Rattle.token_reader.specs.Reading.{reader_at, heard, outcome, answer, Listed, Ready, Ends}
use Rattle.token_reader.specs.declared.Reader.{Reader}
use Rattle.token_reader.proofs.Steps.{outcome_clear}
use Rattle.text_reader.specs.Heard.{Heard}

zero_says : (t : List ℕ) → item_in t 0 ≡ nothing
unfolding numbered
zero_says t = number_says t 0 0 (omega arith) (omega arith)

zero_sound : (t : List ℕ) → Sound t 0
unfolding numbered
zero_sound t = number_sound t 0 0 (omega arith) (omega arith)

module _ (t list : List ℕ) (count : ℕ) (l : Listed t list count) (few : count ≤ length t) where
  heard_length : length (heard t count list) ≡ count
  unfolding heard
  heard_length = length-map (take count list) (item_in t) ∙ length-take-le count list (omega (arith, l.room))

  noted_each : (k : ℕ) → get_or (heard t count list) k nothing ≡ item_in t (get_or list k 0)
  unfolding heard
  noted_each k =
      subst (λ d. get_or (map (item_in t) (take count list)) k d ≡ item_in t (get_or list k 0)) (zero_says t)
      (get_or-map (item_in t) (take count list) k 0 ∙ ap (item_in t) (taken k))
    where
      taken : (k : ℕ) → get_or (take count list) k 0 ≡ get_or list k 0
      taken k =
          elim (dec_lt k count) [
            | yes h ↦ get_or-take count list k 0 h
            | no h ↦
                let e = length-take-le count list (omega (arith, l.room)) in
                get_or-eq_default (take count list) 0 (omega arith) ∙ sym (l.zeros k (omega arith))
          ]

  noted_sound : (k : ℕ) → Sound t (get_or list k 0)
  noted_sound k = elim (dec_lt k count) [ yes h ↦ l.sound k h | no h ↦ rw (l.zeros k (omega arith)) (zero_sound t) ]

  notes_all : Noted t list (heard t count list)
  notes_all = record { each = noted_each; sound = noted_sound }

-- a reader that is at the end
pub heard_end :
    {plan : Bool} {t list₀ list : List ℕ} {r₀ a : Reader} {σ : List Symbol} {reading : Outcome} → length list₀ ≡ notes_most
    → reading ≡ outcome plan t list₀ r₀ σ → Ends plan t list₀ r₀ σ list a → Heard plan reading t list a
heard_end {t} {list} {a} z e p =
    let s = p.ready.stands in
    let n : a.count ≤ length t = omega (arith, s.few, s.standing.onward, s.standing.within) in
    record {
      same = e ∙ p.same;
      noted = notes_all t list a.count p.ready.listed n;
      many = heard_length t list a.count p.ready.listed n;
      few = omega (arith, s.short);
      size = p.size ∙ z;
      line = omega (arith, s.short, s.standing.lines, s.standing.onward, s.standing.within);
      fault = s.fault;
    }

-- the first token
module _ (plan : Bool) (t list : List ℕ) {c : Cursor} {r : Reader} (h : length t ≤ text_most) (z : length list ≡ notes_most)
    (empty : (k : ℕ) → get_or list k 0 ≡ 0) (m : First plan t c) (e : r ≡ reader_at c 0 None) where
  pub first_ready : Ready plan t list r
  first_ready = rw e (record {
    stands = record { short = h; standing = m.standing; few = omega arith; fault = inl refl };
    listed = record { room = omega arith; sound = λ k q. absurd (omega arith); zeros = λ k q. empty k };
  })

  pub first_outcome : (σ : List Symbol) → run depth_most σ [] (tokens plan 0 t) ≡ outcome plan t list r σ
  unfolding heard
  first_outcome σ =
      rw e
      (ap (run depth_most σ []) m.same ∙ sym (outcome_clear plan t list (reader_at c 0 None) σ refl))

-- a text that is too long
module _ (plan : Bool) (t list : List ℕ) {a : Reader} (h : text_most < length t) (z : length list ≡ notes_most)
    (empty : (k : ℕ) → get_or list k 0 ≡ 0) (e : a ≡ record { at = 0; end = 0; line = 0; count = 0; fault = Some OutsideGrammar }) where
  long_notes : Noted t list []
  long_notes = record {
    each = λ k. rw (empty k) (sym (zero_says t));
    sound = λ k. rw (empty k) (zero_sound t);
  }

  pub heard_long : {reading : Outcome} → reading ≡ refused 18 0 [] → Heard plan reading t list a
  unfolding answer heard
  heard_long f = rw e (record {
    same = f;
    noted = long_notes;
    many = refl;
    few = omega arith;
    size = z;
    line = omega arith;
    fault = inr (inl refl);
  })

module _ (t : List ℕ) where
  pub actions_long : text_most < length t → action_reading t ≡ refused 18 0 []
  unfolding action_reading
  actions_long h = rw (lt-ltb _ _ h)

  pub actions_short : length t ≤ text_most → action_reading t ≡ run depth_most (text ∷ []) [] (tokens false 0 t)
  unfolding action_reading
  actions_short h = rw (le-ltb _ _ h)

  pub plan_long : text_most < length t → plan_reading t ≡ refused 18 0 []
  unfolding plan_reading
  plan_long h = rw (lt-ltb _ _ h)

  pub plan_short : length t ≤ text_most → plan_reading t ≡ run depth_most (lines ∷ []) [] (tokens true 0 t)
  unfolding plan_reading
  plan_short h = rw (le-ltb _ _ h)
