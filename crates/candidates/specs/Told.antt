-- Tables that candidates were met by tell of each block the one given, and whether another disagrees.
use Rattle.std.specs.Prelude.{ℕ, ◌*◌, ◌<◌, ◌≢◌, Bool, cond, ◌||◌, ◌&&◌, set}
use Rattle.std.proofs.Math.Path.{◌≡◌, refl, sym}
use Rattle.std.proofs.Common.{ap, ◌∙◌, subst, inl, inr, ⊎_elim, true≢false, arith, length-set, get_or-set_same}
use Rattle.std.proofs.Math.Bool.{true, false, not}
use Rattle.std.proofs.lemmas.Bool.{false≢true}
use mathlib.Core.List.{List, [], ◌∷◌, map}
use Rattle.std.proofs.Math.Decide.{ℕ_discrete}
use Rattle.std.proofs.Math.ListN.{length, get_or}
use Rattle.std.proofs.Math.Seq.{get_or-set_other}
use Rattle.std.proofs.Math.Dec.{eqb}
use borrow.Author.Tests.{eqb-true, eqb-false, eq-eqb, ne_eqb}
use Rattle.model.specs.Lists.{same, all}
use Rattle.model.specs.Chip.{Image, Page}
use Rattle.model.specs.Slot.{live, slot_of, slot_page}
use Rattle.model.specs.State.{holds}
use Rattle.model.proofs.Laws.Bytes.{same_eq, same_refl}
use Rattle.model.proofs.Laws.SlotPage.{live_facts}
use Rattle.account_text.specs.Account.{LiveSlot}
use Rattle.index.specs.Tables.{most_pages, page_of, of_block}
use Rattle.salvage.specs.Salvage.{held_in, given, agreed}
use Rattle.meeting.specs.declared.Sheet.{Sheet}
use Rattle.meeting.specs.Sheet.{sheet, page_at, met}
use Rattle.candidates.specs.Gathered.{met_all, Lies, NoneOf, OneOf, Tells}

-- ---- pages of one block

-- they are the same exactly if their contents are
pages_same : (p q : Page) (b : ℕ) (c d : List ℕ) → slot_of p ≡ live b c → slot_of q ≡ live b d → same p q ≡ same d c
pages_same p q b c d e f = go (same p q) (same d c) refl refl
  where
    contents : p ≡ q → d ≡ c
    contents w = let k : live b c ≡ live b d = sym e ∙ (ap slot_of w ∙ f) in cc

    pages : d ≡ c → p ≡ q
    pages w = (live_facts p b c e).page ∙ (ap (slot_page b) (sym w) ∙ sym (live_facts q b d f).page)

    go : (t u : Bool) → same p q ≡ t → same d c ≡ u → t ≡ u
    go true true x y = refl
    go false false x y = refl
    go true false x y = absurd (false≢true (sym y ∙ (ap (λ (z : List ℕ). same z c) (contents (same_eq p q x)) ∙ same_refl c)))
    go false true x y = absurd (false≢true (sym x ∙ (ap (λ (z : Page). same z q) (pages (same_eq d c y)) ∙ same_refl q)))

-- ---- those given

module _ (b : ℕ) where
  -- a block without a candidate
  pub given_none : (r : List LiveSlot) → holds b (map held_in r) ≡ false → of_block b (given r) ≡ []
  unfolding given of_block holds held_in
  given_none [] h = refl
  given_none (e ∷ r) h = go (eqb b e.block) (holds e.block (map held_in r)) refl h (given_none r)
    where
      go : (u t : Bool) → eqb b e.block ≡ u → u || holds b (map held_in r) ≡ false → (holds b (map held_in r) ≡ false → of_block b (given r) ≡ []) → of_block b (cond t (given r) (e ∷ given r)) ≡ []
      go true t q k ih = absurd (true≢false k)
      go false true q k ih = ih k
      go false false q k ih = rw q (ih k)

  pub none_given : (r : List LiveSlot) → of_block b (given r) ≡ [] → holds b (map held_in r) ≡ false
  unfolding given of_block holds held_in
  none_given [] h = refl
  none_given (e ∷ r) h = go (eqb b e.block) (holds e.block (map held_in r)) refl refl h (none_given r)
    where
      go : (u t : Bool) → eqb b e.block ≡ u → holds e.block (map held_in r) ≡ t → of_block b (cond t (given r) (e ∷ given r)) ≡ [] → (of_block b (given r) ≡ [] → holds b (map held_in r) ≡ false) → u || holds b (map held_in r) ≡ false
      go true true q k n ih = absurd (false≢true (sym (ih n) ∙ (ap (λ (z : ℕ). holds z (map held_in r)) (eqb-true b e.block q) ∙ k)))
      go true false q k n ih = absurd (let z : ◌≡◌ {A = List LiveSlot} (e ∷ of_block b (given r)) [] = (sym (rw q) ∙ n) in let y : ◌≡◌ {A = ℕ} 0 1 = cc in omega arith)
      go false true q k n ih = ih n
      go false false q k n ih = ih (sym (rw q) ∙ n)

  -- another block's candidate changes nothing
  given_other : (e : LiveSlot) (r : List LiveSlot) → b ≢ e.block → of_block b (given (e ∷ r)) ≡ of_block b (given r)
  unfolding given of_block
  given_other e r n = go (holds e.block (map held_in r))
    where
      go : (t : Bool) → of_block b (cond t (given r) (e ∷ given r)) ≡ of_block b (given r)
      go true = refl
      go false = rw (ne_eqb b e.block n)

agreed_other : (e x : LiveSlot) (r : List LiveSlot) → x.block ≢ e.block → agreed (e ∷ r) x ≡ agreed r x
unfolding agreed all
agreed_other e x r n = rw (ne_eqb e.block x.block (λ q. n (sym q)))

agreed_one : (e x : LiveSlot) (r : List LiveSlot) → x.block ≡ e.block → agreed (e ∷ r) x ≡ same e.contents x.contents && agreed r x
unfolding agreed all
agreed_one e x r q = rw (eq-eqb e.block x.block (sym q))

agreed_alone : (x : LiveSlot) (r : List LiveSlot) → holds x.block (map held_in r) ≡ false → agreed r x ≡ true
unfolding agreed all holds held_in
agreed_alone x [] h = refl
agreed_alone x (e ∷ r) h = go (eqb x.block e.block) refl h (agreed_alone x r)
  where
    go : (u : Bool) → eqb x.block e.block ≡ u → u || holds x.block (map held_in r) ≡ false → (holds x.block (map held_in r) ≡ false → agreed r x ≡ true) → (not (eqb e.block x.block) || same e.contents x.contents) && agreed r x ≡ true
    go true q k ih = absurd (true≢false k)
    go false q k ih = rw (ne_eqb e.block x.block (λ z. eqb-false x.block e.block q (sym z))) (ih k)

-- ---- one candidate more

abbrev pub Whole : Sheet → Type 0
Whole t = (length t.places ≡ most_pages) × (length t.lengths ≡ most_pages) × (length t.differs ≡ most_pages)

pub met_whole : (s : Image) (at b n : ℕ) (t : Sheet) → Whole t → Whole (met s at b n t)
unfolding met
met_whole s at b n t w = go (eqb (get_or t.places b 0) 0) (same (page_at s (get_or t.places b 0)) (page_at s at))
  where
    go : (x y : Bool) → Whole (cond x (sheet (set t.places b at) (set t.lengths b n) t.differs) (cond y t (sheet t.places t.lengths (set t.differs b true))))
    go true y = (length-set t.places b at ∙ w.0, length-set t.lengths b n ∙ w.1, w.2)
    go false true = w
    go false false = (w.0, w.1, length-set t.differs b true ∙ w.2)

module _ (N B : ℕ) (s : Image) (e : LiveSlot) (r : List LiveSlot) (t : Sheet) (w : Whole t) (lies : Lies N B s e) where
  abbrev at : ℕ
  at = page_of B e * 256

  abbrev after : Sheet
  after = met s at e.block (length e.contents) t

  inside : e.block < most_pages
  inside = lies.stands.block

  -- the first of its block
  first : holds e.block (map held_in r) ≡ false → NoneOf t r e.block → OneOf N B s after (e ∷ r) e.block
  unfolding met given of_block
  first h n = record {
    slot = e;
    one = rw (h, eq-eqb e.block e.block refl, n.none);
    block = refl;
    lies = lies;
    place = rw test (get_or-set_same t.places e.block at 0 (rw w.0 inside));
    length = rw test (get_or-set_same t.lengths e.block (length e.contents) 0 (rw w.1 inside));
    differs = rw test (n.differs ∙ sym (ap not alone));
  }
    where
      test : eqb (get_or t.places e.block 0) 0 ≡ true
      test = eq-eqb (get_or t.places e.block 0) 0 n.place

      alone : agreed (e ∷ r) e ≡ true
      alone = agreed_one e e r refl ∙ rw (same_refl e.contents) (agreed_alone e r h)

  -- another is given, and this one is compared with it
  module _ (o : OneOf N B s t r e.block) where
    abbrev x : LiveSlot
    x = o.slot

    some : 0 < page_of B x
    unfolding page_of
    some = omega (arith, o.lies.stands.first)

    taken : eqb (get_or t.places e.block 0) 0 ≡ false
    taken = ne_eqb (get_or t.places e.block 0) 0 (λ q. omega (arith, some, o.place))

    -- the pages tell whether the contents agree
    told : same (page_at s (get_or t.places e.block 0)) (page_at s at) ≡ same e.contents x.contents
    told = ap (λ (k : ℕ). same (page_at s k) (page_at s at)) o.place
        ∙ pages_same (page_at s (page_of B x * 256)) (page_at s at) e.block x.contents e.contents (o.lies.page ∙ ap (λ (k : ℕ). live k x.contents) o.block) lies.page

    held : holds e.block (map held_in r) ≡ true
    held = go (holds e.block (map held_in r)) refl
      where
        go : (u : Bool) → holds e.block (map held_in r) ≡ u → u ≡ true
        go true q = refl
        go false q = absurd (let z : ◌≡◌ {A = List LiveSlot} (x ∷ []) [] = (sym o.one ∙ given_none e.block r q) in let y : ◌≡◌ {A = ℕ} 0 1 = cc in omega arith)

    stays : of_block e.block (given (e ∷ r)) ≡ x ∷ []
    unfolding given
    stays = rw held o.one

    compared : OneOf N B s after (e ∷ r) e.block
    unfolding met
    compared = rw taken (go (same (page_at s (get_or t.places e.block 0)) (page_at s at)) told)
      where
        agrees : agreed (e ∷ r) x ≡ same e.contents x.contents && agreed r x
        agrees = agreed_one e x r o.block

        go : (u : Bool) → u ≡ same e.contents x.contents → OneOf N B s (cond u t (sheet t.places t.lengths (set t.differs e.block true))) (e ∷ r) e.block
        go true q = record { slot = x; one = stays; block = o.block; lies = o.lies; place = o.place; length = o.length; differs = o.differs ∙ ap not (sym (agrees ∙ ap (λ (b : Bool). b && agreed r x) (sym q))) }
        go false q = record {
          slot = x;
          one = stays;
          block = o.block;
          lies = o.lies;
          place = o.place;
          length = o.length;
          differs = get_or-set_same t.differs e.block true false (rw w.2 inside) ∙ sym (ap not (agrees ∙ ap (λ (b : Bool). b && agreed r x) (sym q)));
        }

  -- a block that is another's
  module _ (b : ℕ) (n : b ≢ e.block) where
    same_place : get_or after.places b 0 ≡ get_or t.places b 0
    unfolding met
    same_place = go (eqb (get_or t.places e.block 0) 0) (same (page_at s (get_or t.places e.block 0)) (page_at s at))
      where
        go : (u v : Bool) → get_or (cond u (sheet (set t.places e.block at) (set t.lengths e.block (length e.contents)) t.differs) (cond v t (sheet t.places t.lengths (set t.differs e.block true)))).places b 0 ≡ get_or t.places b 0
        go true v = get_or-set_other t.places e.block b at 0 n
        go false true = refl
        go false false = refl

    same_length : get_or after.lengths b 0 ≡ get_or t.lengths b 0
    unfolding met
    same_length = go (eqb (get_or t.places e.block 0) 0) (same (page_at s (get_or t.places e.block 0)) (page_at s at))
      where
        go : (u v : Bool) → get_or (cond u (sheet (set t.places e.block at) (set t.lengths e.block (length e.contents)) t.differs) (cond v t (sheet t.places t.lengths (set t.differs e.block true)))).lengths b 0 ≡ get_or t.lengths b 0
        go true v = get_or-set_other t.lengths e.block b (length e.contents) 0 n
        go false true = refl
        go false false = refl

    same_differs : get_or after.differs b false ≡ get_or t.differs b false
    unfolding met
    same_differs = go (eqb (get_or t.places e.block 0) 0) (same (page_at s (get_or t.places e.block 0)) (page_at s at))
      where
        go : (u v : Bool) → get_or (cond u (sheet (set t.places e.block at) (set t.lengths e.block (length e.contents)) t.differs) (cond v t (sheet t.places t.lengths (set t.differs e.block true)))).differs b false ≡ get_or t.differs b false
        go true v = refl
        go false true = refl
        go false false = get_or-set_other t.differs e.block b true false n

    none_still : NoneOf t r b → NoneOf after (e ∷ r) b
    none_still k = record { none = given_other b e r n ∙ k.none; place = same_place ∙ k.place; differs = same_differs ∙ k.differs }

    one_still : OneOf N B s t r b → OneOf N B s after (e ∷ r) b
    one_still o = record {
      slot = o.slot;
      one = given_other b e r n ∙ o.one;
      block = o.block;
      lies = o.lies;
      place = same_place ∙ o.place;
      length = same_length ∙ o.length;
      differs = same_differs ∙ (o.differs ∙ ap not (sym (agreed_other e o.slot r (λ q. n (sym o.block ∙ q)))));
    }

  tells_here : Tells N B s t r e.block → Tells N B s after (e ∷ r) e.block
  tells_here k = ⊎_elim (λ n. inr (first (none_given e.block r n.none) n)) (λ o. inr (compared o)) k

  tells_more : (b : ℕ) → Tells N B s t r b → Tells N B s t r e.block → Tells N B s after (e ∷ r) b
  tells_more b k h = elim (ℕ_discrete b e.block) [
    | yes q ↦ subst (λ (z : ℕ). Tells N B s after (e ∷ r) z) (sym q) (tells_here h)
    | no q ↦ ⊎_elim (λ n. inl (none_still b q n)) (λ o. inr (one_still b q o)) k
  ]

-- ---- all of them

abbrev pub AllLie : ℕ → ℕ → Image → List LiveSlot → Type 0
AllLie N B s [] = Unit {0}
AllLie N B s (e ∷ r) = Lies N B s e × AllLie N B s r

pub all_whole : (s : Image) (B : ℕ) (r : List LiveSlot) (t : Sheet) → Whole t → Whole (met_all s B r t)
unfolding met_all
all_whole s B [] t w = w
all_whole s B (e ∷ r) t w = met_whole s (page_of B e * 256) e.block (length e.contents) (met_all s B r t) (all_whole s B r t w)

pub all_tell : (N B : ℕ) (s : Image) (r : List LiveSlot) (t : Sheet) → AllLie N B s r → Whole t → ((b : ℕ) → Tells N B s t [] b) → (b : ℕ) → Tells N B s (met_all s B r t) r b
unfolding met_all
all_tell N B s [] t a w z b = z b
all_tell N B s (e ∷ r) t a w z b = tells_more N B s e r (met_all s B r t) (all_whole s B r t w) a.0 b (all_tell N B s r t a.1 w z b) (all_tell N B s r t a.1 w z e.block)
