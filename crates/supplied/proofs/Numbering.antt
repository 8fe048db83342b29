-- Names have one number each, as they first appear.
use Prim.Native.Nat.{ℕ, zero, suc, ◌+◌, ◌≤◌, ◌<◌}
use mathlib.Core.Path.{◌≡◌, refl, sym, ap, ◌∙◌}
use mathlib.Core.Bool.{true, false, ◌||◌, or-true, or_assoc}
use mathlib.Core.Logic.{◌⊎◌, inl, inr, ⊎_elim}
use mathlib.Core.List.{List, [], ◌∷◌, ◌++◌, append_assoc, append-nil}
use native.Mathlib.Omega.{arith}
use native.Mathlib.Nat.{not-suc-le-zero}
use native.Mathlib.Decide.{dec_lt}
use lib.ListN.{length, get_or, length-append, get_or-append}
use lib.Seq.{get_or_at}
use Rattle.laws.proofs.Search.{contrary, either, or_both, or_out}
use Rattle.spelling.specs.Keywords.{same}
use Rattle.spelling.proofs.Same.{same_refl, same_eq}
use Rattle.grammar.specs.Said.{Role, Said, name, number, Item}
use Rattle.grammar.specs.Tree.{Word}
use Rattle.supplied.specs.Names.{Kind, kind_of, same_kind, is_in, with_word, with_said, appearing, names_of, number_of}
use Rattle.supplied.specs.Clash.{SaidIn, Numbering}
use Rattle.supplied.proofs.Clash.{kind_same, kind_refl}

-- the number of a word among others: theirs where it is one of them, else their count
pub number_le : (w : Word) (vs : List Word) → number_of w vs ≤ length vs
unfolding number_of
number_le w [] = omega arith
number_le w (v ∷ vs) =
    ⊎_elim
    (λ (t : same v w ≡ true). rw t (omega arith))
    (λ (f : same v w ≡ false). rw f (let h = number_le w vs in omega arith))
    (either (same v w))

record Found (w : Word) (vs : List Word) : Type 0 where
  pub below : number_of w vs < length vs
  pub there : get_or vs (number_of w vs) [] ≡ w
  -- it keeps its number where others follow
  pub kept : (us : List Word) → number_of w (vs ++ us) ≡ number_of w vs

found : (w : Word) (vs : List Word) → is_in w vs ≡ true → Found w vs
unfolding is_in number_of
found w [] e = contrary e refl
found w (v ∷ vs) e =
    ⊎_elim
    (λ (t : same v w ≡ true).
    record { below = rw t (omega arith); there = rw t (same_eq v w t); kept = λ us. rw t refl })
    (λ (f : same v w ≡ false).
    let r = found w vs (rw f at e) in
    record {
      below = rw f (let h = r.below in omega arith);
      there = rw f r.there;
      kept = λ us. rw f (ap suc (r.kept us));
    })
    (either (same v w))

missed : (w : Word) (vs us : List Word) → is_in w vs ≡ false → number_of w (vs ++ us) ≡ length vs + number_of w us
unfolding is_in number_of
missed w [] us e = omega arith
missed w (v ∷ vs) us e =
    let p = or_both (same v w) (is_in w vs) e in
    rw p.0 (let h = missed w vs us p.1 in omega arith)

in_at : (vs : List Word) (n : ℕ) → n < length vs → is_in (get_or vs n []) vs ≡ true
unfolding is_in
in_at [] n h = absurd (not-suc-le-zero h)
in_at (v ∷ vs) zero h = rw (same_refl v) refl
in_at (v ∷ vs) (suc n) h = rw (in_at vs n (omega arith)) (or-true (same v (get_or vs n [])))

in_append : (w : Word) (vs us : List Word) → is_in w (vs ++ us) ≡ (is_in w vs || is_in w us)
unfolding is_in
in_append w [] us = refl
in_append w (v ∷ vs) us = rw (in_append w vs us) (sym (or_assoc (same v w) (is_in w vs) (is_in w us)))

-- each is numbered by its place
abbrev Own : List Word → Type 0
Own vs = (n : ℕ) → n < length vs → number_of (get_or vs n []) vs ≡ n

last_number : (vs : List Word) (w : Word) → is_in w vs ≡ false → number_of w (vs ++ w ∷ []) ≡ length vs
unfolding number_of
last_number vs w f = missed w vs (w ∷ []) f ∙ rw (same_refl w) (omega arith)

own_word : (vs : List Word) (w : Word) → Own vs → Own (with_word vs w)
unfolding with_word
own_word vs w o = ⊎_elim (λ (t : is_in w vs ≡ true). rw t o) (λ (f : is_in w vs ≡ false). rw f (more f)) (either (is_in w vs))
  where
    more : is_in w vs ≡ false → Own (vs ++ w ∷ [])
    more f n h =
        elim (dec_lt n (length vs)) [
          | yes l ↦
              rw (get_or-append vs (w ∷ []) [] n l)
              ((found (get_or vs n []) vs (in_at vs n l)).kept (w ∷ []) ∙ o n l)
          | no l ↦
              let q : length vs ≡ n = let z = length-append vs (w ∷ []) in omega arith in
              rw (get_or_at vs w [] [] n q) (last_number vs w f ∙ q)
        ]

own_said : (k : Kind) (vs : List Word) (s : Said) → Own vs → Own (with_said k vs s)
unfolding with_said
own_said k vs (name r w) o =
    ⊎_elim
    (λ (t : same_kind (kind_of r) k ≡ true). rw t (own_word vs w o))
    (λ (f : same_kind (kind_of r) k ≡ false). rw f o)
    (either (same_kind (kind_of r) k))
own_said k vs (number n) o = o

own_appearing : (k : Kind) (vs : List Word) (is : List Item) → Own vs → Own (appearing k vs is)
unfolding appearing
own_appearing k vs [] o = o
own_appearing k vs (i ∷ is) o = own_appearing k (with_said k vs i.said) is (own_said k vs i.said o)

-- what has appeared stays, with others behind it
abbrev Grown : List Word → List Word → Type 0
Grown vs us = (new : List Word) × (us ≡ vs ++ new)

grown_word : (vs : List Word) (w : Word) → Grown vs (with_word vs w)
unfolding with_word
grown_word vs w =
    ⊎_elim
    (λ (t : is_in w vs ≡ true). rw t ([], sym (append-nil vs)))
    (λ (f : is_in w vs ≡ false). rw f (w ∷ [], refl))
    (either (is_in w vs))

grown_said : (k : Kind) (vs : List Word) (s : Said) → Grown vs (with_said k vs s)
unfolding with_said
grown_said k vs (name r w) =
    ⊎_elim
    (λ (t : same_kind (kind_of r) k ≡ true). rw t (grown_word vs w))
    (λ (f : same_kind (kind_of r) k ≡ false). rw f ([], sym (append-nil vs)))
    (either (same_kind (kind_of r) k))
grown_said k vs (number n) = ([], sym (append-nil vs))

grown : (k : Kind) (vs : List Word) (is : List Item) → Grown vs (appearing k vs is)
unfolding appearing
grown k vs [] = ([], sym (append-nil vs))
grown k vs (i ∷ is) =
    let a = grown_said k vs i.said in
    let b = grown k (with_said k vs i.said) is in
    (a.0 ++ b.0, b.1 ∙ ap (λ us. us ++ b.0) a.1 ∙ append_assoc vs a.0 b.0)

grown_in : (w : Word) (vs us : List Word) → Grown vs us → is_in w vs ≡ true → is_in w us ≡ true
grown_in w vs us g t = ap (is_in w) g.1 ∙ in_append w vs g.0 ∙ ap (λ b. b || is_in w g.0) t

appearing_append : (k : Kind) (vs : List Word) (is js : List Item) → appearing k vs (is ++ js) ≡ appearing k (appearing k vs is) js
unfolding appearing
appearing_append k vs [] js = refl
appearing_append k vs (i ∷ is) js = appearing_append k (with_said k vs i.said) is js

-- what is said appears, and nothing else
word_in : (vs : List Word) (w : Word) → is_in w (with_word vs w) ≡ true
unfolding with_word is_in
word_in vs w =
    ⊎_elim
    (λ (t : is_in w vs ≡ true). rw t t)
    (λ (f : is_in w vs ≡ false). rw f (in_append w vs (w ∷ []) ∙ rw (same_refl w) (or-true (is_in w vs))))
    (either (is_in w vs))

word_out : (vs : List Word) (v w : Word) → is_in w (with_word vs v) ≡ true → (is_in w vs ≡ true) ⊎ (v ≡ w)
unfolding with_word is_in
word_out vs v w e =
    ⊎_elim
    (λ (t : is_in v vs ≡ true). inl (rw t at e))
    (λ (f : is_in v vs ≡ false).
    let g : is_in w (vs ++ v ∷ []) ≡ true = rw f at e in
    ⊎_elim
    (λ (t : is_in w vs ≡ true). inl t)
    (λ (h : (same v w || false) ≡ true). inr (same_eq v w (⊎_elim (λ t. t) (λ n. contrary n refl) (or_out (same v w) false h))))
    (or_out (is_in w vs) (same v w || false) (sym (in_append w vs (v ∷ [])) ∙ g)))
    (either (is_in v vs))

said_first :
    (k : Kind) (vs : List Word) (w : Word) (i : Item) (is : List Item) (r : Role) → i.said ≡ name r w → kind_of r ≡ k
    → is_in w (appearing k vs (i ∷ is)) ≡ true
unfolding appearing with_said
said_first k vs w i is r e f =
    grown_in w (with_said k vs i.said) (appearing k (with_said k vs i.said) is) (grown k (with_said k vs i.said) is)
    (rw (e, kind_refl (kind_of r) k f) (word_in vs w))

said_in_lem : (k : Kind) (w : Word) (is : List Item) → SaidIn k w is → is_in w (names_of k is) ≡ true
said_in_lem k w is s =
    ap (λ x. is_in w (names_of k x)) s.split
    ∙ ap (is_in w) (appearing_append k [] s.before (s.at ∷ s.after))
    ∙ said_first k (names_of k s.before) w s.at s.after s.role s.names s.kind

-- one more before those among which it is said
said_later : (k : Kind) (w : Word) (i : Item) (is : List Item) → SaidIn k w is → SaidIn k w (i ∷ is)
said_later k w i is s =
    record {
      before = i ∷ s.before;
      at = s.at;
      after = s.after;
      role = s.role;
      split = ap (λ js. i ∷ js) s.split;
      names = s.names;
      kind = s.kind;
    }

said_here : (k : Kind) (vs : List Word) (w : Word) (i : Item) (is : List Item) (s : Said) → i.said ≡ s →
    is_in w (with_said k vs s) ≡ true → (is_in w vs ≡ true) ⊎ SaidIn k w (i ∷ is)
unfolding with_said
said_here k vs w i is (number n) e t = inl t
said_here k vs w i is (name r v) e t =
    ⊎_elim
    (λ (q : same_kind (kind_of r) k ≡ true).
    ⊎_elim
    (λ (u : is_in w vs ≡ true). inl u)
    (λ (u : v ≡ w).
    inr
    (record {
      before = [];
      at = i;
      after = is;
      role = r;
      split = refl;
      names = e ∙ ap (name r) u;
      kind = kind_same (kind_of r) k q;
    }))
    (word_out vs v w (rw q at t)))
    (λ (q : same_kind (kind_of r) k ≡ false). inl (rw q at t))
    (either (same_kind (kind_of r) k))

said_out : (k : Kind) (vs : List Word) (w : Word) (is : List Item) → is_in w (appearing k vs is) ≡ true → (is_in w vs ≡ true) ⊎ SaidIn k w is
unfolding appearing
said_out k vs w [] e = inl e
said_out k vs w (i ∷ is) e =
    ⊎_elim
    (λ (t : is_in w (with_said k vs i.said) ≡ true). said_here k vs w i is i.said refl t)
    (λ (s : SaidIn k w is). inr (said_later k w i is s))
    (said_out k (with_said k vs i.said) w is e)

said_of : (k : Kind) (w : Word) (is : List Item) → is_in w (names_of k is) ≡ true → SaidIn k w is
unfolding is_in
said_of k w is t = ⊎_elim (λ (n : false ≡ true). contrary n refl) (λ s. s) (said_out k [] w is t)

pub numbering : (is : List Item) (k : Kind) → Numbering is k
numbering is k =
    record {
      once = λ m n a b e. sym (own m a) ∙ ap (λ w. number_of w (names_of k is)) e ∙ own n b;
      every = λ w s. let f = found w (names_of k is) (said_in_lem k w is s) in (f.below, f.there);
      only = λ n h. said_of k (get_or (names_of k is) n []) is (in_at (names_of k is) n h);
      order = ordered;
    }
  where
    own : Own (names_of k is)
    own = own_appearing k [] is (λ n h. absurd (not-suc-le-zero h))

    ordered :
        (part rest : List Item) (v w : Word) → is ≡ part ++ rest → SaidIn k v part → (SaidIn k w part → ⊥)
        → number_of v (names_of k is) < number_of w (names_of k is)
    ordered part rest v w e s n =
        let g = grown k (names_of k part) rest in
        let q : names_of k is ≡ names_of k part ++ g.0 = ap (names_of k) e ∙ appearing_append k [] part rest ∙ g.1 in
        let f = found v (names_of k part) (said_in_lem k v part s) in
        let m : is_in w (names_of k part) ≡ false =
        ⊎_elim (λ (t : is_in w (names_of k part) ≡ true). absurd (n (said_of k w part t))) (λ x. x) (either (is_in w (names_of k part))) in
        rw q (omega (arith, f.below, f.kept g.0, missed w (names_of k part) g.0 m))
