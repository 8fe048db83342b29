-- An action text whose names are looked at: a clash refuses it, and else the reader's answer stands.
use Prim.Native.Nat.{ℕ, ◌<◌}
use mathlib.Core.Path.{◌≡◌, refl, sym, ap, subst, ◌∙◌}
use mathlib.Core.Bool.{false}
use mathlib.Core.List.{List, []}
use mathlib.Core.Logic.{inl, inr}
use native.Mathlib.Omega.{arith}
use borrow.Author.Tests.{eq-eqb, ne_eqb}
use lib.Dec.{eqb}
use lib.ListN.{length, get_or, take}
use lib.Seq.{length-take-le, get_or-take}
use Rattle.grammar.specs.Said.{Item}
use Rattle.grammar.specs.Reader.{refused}
use Rattle.grammar.specs.Reading.{action_reading}
use Rattle.notes.specs.Notes.{line_in, item_in, nothing, items_in, Sound}
use Rattle.token_reader.specs.Reading.{fault_of, heard, answer}
use Rattle.std.specs.Prelude.{Some}
use Rattle.token_reader.specs.declared.Fault.TheVariants.{OutsideGrammar}
use Rattle.token_reader.specs.declared.Reader.{Reader}
use Rattle.text_reader.specs.Heard.{Heard}
use Rattle.supplied.specs.Names.{names_from, with_names}
use Rattle.naming.specs.declared.Names.{Names}
use Rattle.naming.specs.Named.{Readable, Standing, Clashing}
use Rattle.texts_answer.specs.FromTexts.{actions_read}
use Rattle.from_pddl.specs.Understood.{Understood}
use Rattle.from_pddl.proofs.Named.{names_first}

module _ (text said : List ℕ) (r : Reader) (h : Heard false (action_reading text) text said r) where
  pub notes_length : length (take r.count said) ≡ r.count
  notes_length = length-take-le r.count said (omega (arith, h.few, h.size))

  -- each note lies in the text
  pub notes_readable : Readable text (take r.count said)
  notes_readable = record {
    few = omega (arith, notes_length, h.few);
    each = λ k l.
        subst (λ w. Sound text w) (sym (get_or-take r.count said k 0 (omega (arith, l, notes_length)))) (h.noted.sound k);
  }

  module _ (numbers index : List ℕ) where
    abbrev items : List Item
    items = items_in text (take r.count said)

    names_looked : actions_read text ≡ names_from [] items (answer text said r)
    unfolding actions_read answer heard
    names_looked = ap with_names h.same ∙ names_first (eqb (fault_of r) 0) items (fault_of r) r.line

    -- a name that may not stand there is refused at its line
    pub clash_understood :
        (k line : ℕ) (n : Names) → Clashing text (take r.count said) k → line ≡ line_in (get_or said k 0) → line < 65536
        → Understood text said numbers index (record { fault = Some OutsideGrammar; line = line; count = r.count; names = n })
    unfolding item_in heard
    clash_understood k line n c e b = record {
      size = h.size;
      few = h.few;
      line = omega (arith, b);
      fault = inr (inl refl);
      refuses = λ _. (take k items, names_looked ∙ c.refuses (answer text said r) ∙ there);
      reads = λ z. absurd (omega (arith, z));
      readable = notes_readable;
      named = λ z. absurd (omega (arith, z));
    }
      where
        there : refused 18 (get_or items k nothing).line (take k items) ≡ refused 18 line (take k items)
        there = ap (λ l. refused 18 l (take k items)) (ap (λ (i : Item). i.line) (h.noted.each k) ∙ sym e)

    -- else the reader's answer stands
    pub reader_understood :
        (n : Names) → Standing text (take r.count said) numbers index n
        → Understood text said numbers index (record { fault = r.fault; line = r.line; count = r.count; names = n })
    unfolding answer heard
    reader_understood n s = record {
      size = h.size;
      few = h.few;
      line = h.line;
      fault = h.fault;
      refuses = λ z. (items, names_looked ∙ s.stands (answer text said r) ∙ rw (ne_eqb (fault_of r) 0 z));
      reads = λ z. names_looked ∙ s.stands (answer text said r) ∙ rw (eq-eqb (fault_of r) 0 z);
      readable = notes_readable;
      named = λ z. s.named;
    }
