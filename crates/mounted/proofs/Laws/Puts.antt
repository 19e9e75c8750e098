-- A mounted put, by what refuses it, and by how it is performed.
use Prim.Native.Nat.{ℕ}
use mathlib.Core.Path.{◌≡◌, refl, sym, ap, ◌∙◌}
use mathlib.Core.Logic.{◌≢◌, ⊎_elim}
use mathlib.Core.Bool.{Bool, true, false, not, false≢true}
use mathlib.Core.List.{List, [], ◌∷◌}
use native.Mathlib.Omega.{arith}
use lib.ListN.{length, get_or}
use Rattle.model.specs.Chip.{Image, Bytes}
use Rattle.model.specs.Slot.{number_ok}
use Rattle.model.specs.State.{entries_in, holds, view}
use Rattle.model.specs.Answers.{code_of, length_ok, put, performed}
use Rattle.model.specs.Sequences.{among}
use Rattle.model.specs.declared.Answer.{Answer}
use Rattle.model.specs.declared.Answer.TheVariants.{Done, Size, Number, Length, Damaged, Unfinished, Absent as NotStored, Full, Worn, Cut, ShortTable, FormerVersion, Foreign, Shares, ShortBuffer}
use Rattle.model.specs.declared.Performed.{Performed}
use Rattle.model.specs.Mounted.{Places, mounted_refusal, InStep, MountedPut}
use Rattle.bridge.specs.Accepted.{refusal, read_passed}
use Rattle.bridge.specs.Refusals.{put_number, put_length}
use Rattle.request.specs.Request.{Refused}
use Rattle.std.specs.Prelude.{Option, is_some, None, Some, Result, Ok, Err}
use Rattle.find.specs.declared.FoundSlot.{FoundSlot}
use Rattle.find.specs.Search.{rows_at, found_in}
use Rattle.places.specs.Places.{stale, entry_seen}
use Rattle.bridge.specs.Mounting.{Kept, in_step_kept, kept_in_step}
use Rattle.put.specs.Writing.{Accepted}
use Rattle.mounted_plan.specs.declared.PutPlan.{PutPlan}
use Rattle.mounted_plan.specs.Decided.{Decides}
use Rattle.mounted_plan.proofs.Callers.{refused_listed, refused_exact, accepted_agreed}
use Rattle.mounted_put.specs.Performing.{Performs}
use Rattle.mounted.specs.Puts.{Puts}
use Rattle.mounted_read.proofs.Laws.Refusals.{passed, bound_not_cut, none_refuses}
use Rattle.mounted_read.proofs.Laws.Reads.{kept_refusal, seen_there, seen_none, seen_stale}
use Rattle.mounted.proofs.Laws.Writes.{refused_writes}

-- the refusals of a plan are among those of a put
planned_listed : (a : Answer) → among (code_of a) (4 ∷ 7 ∷ 8 ∷ 11 ∷ []) ≡ true → (among (code_of a) (0 ∷ 4 ∷ 5 ∷ 7 ∷ 8 ∷ 9 ∷ 11 ∷ []) ≡ true) × (code_of a ≢ 0) × (code_of a ≢ 9)
unfolding code_of among
planned_listed Done h = absurd (false≢true h)
planned_listed Size h = absurd (false≢true h)
planned_listed Number h = absurd (false≢true h)
planned_listed Length h = absurd (false≢true h)
planned_listed Damaged h = (refl, λ z. omega arith, λ z. omega arith)
planned_listed Unfinished h = absurd (false≢true h)
planned_listed NotStored h = absurd (false≢true h)
planned_listed Full h = (refl, λ z. omega arith, λ z. omega arith)
planned_listed Worn h = (refl, λ z. omega arith, λ z. omega arith)
planned_listed Cut h = absurd (false≢true h)
planned_listed ShortTable h = absurd (false≢true h)
planned_listed FormerVersion h = (refl, λ z. omega arith, λ z. omega arith)
planned_listed Foreign h = absurd (false≢true h)
planned_listed Shares h = absurd (false≢true h)
planned_listed ShortBuffer h = absurd (false≢true h)

module _ (N B : ℕ) (s : Image) (t : Places) (b : ℕ) (c : List ℕ) (budget : ℕ) where
  abbrev taken : Bool
  taken = length_ok (length c)

  -- refused before the table is looked at
  pub put_bound : (k : Bool) → k ≡ length_ok (length c) → (a : Answer) {p : Performed} → code_of a ≡ mounted_refusal N B s t b k → mounted_refusal N B s t b k ≢ 0 → Refused a p → MountedPut N B b c budget (performed p s) s t t
  put_bound k l a {p} e h q = go (rw l at e) (rw l at h)
    where
      go : code_of a ≡ mounted_refusal N B s t b taken → mounted_refusal N B s t b taken ≢ 0 → MountedPut N B b c budget (performed p s) s t t
      go e h = refused_writes N B s t b taken _ (put b c) budget a q (λ z. h (sym e ∙ z)) (λ z. bound_not_cut N B s t b taken (sym e ∙ z)) (λ n. e) (λ z. absurd (h z)) (λ k. same k (number_ok b) taken refl refl)
        where
          same : Kept N B s t → (n m : Bool) → number_ok b ≡ n → taken ≡ m → refusal N B s (put b c) ≡ code_of a
          same k false m x y = put_number N B s k.size b c x ∙ sym (e ∙ (kept_refusal N B s t b taken k ∙ rw x))
          same k true false x y = put_length N B s k.size b c x y ∙ sym (e ∙ (kept_refusal N B s t b taken k ∙ rw (x, y)))
          same k true true x y = absurd (h (kept_refusal N B s t b taken k ∙ rw (x, y)))

  pub put_unbound : (k : Bool) → k ≡ length_ok (length c) → (a : Answer) → code_of a ≡ mounted_refusal N B s t b k → a ≡ Done → mounted_refusal N B s t b (length_ok (length c)) ≡ 0
  put_unbound k l a e d = rw l at (none_refuses N B s t b k a e d)

  module _ (p : mounted_refusal N B s t b (length_ok (length c)) ≡ 0) where
    pub put_stale : entry_seen B s (get_or t b 0) ≡ stale → {q : Performed} → Refused Damaged q → MountedPut N B b c budget (performed q s) s t t
    unfolding code_of among
    put_stale e q = refused_writes N B s t b taken _ (put b c) budget Damaged q (λ z. omega arith) (λ z. omega arith) (λ n. absurd (n p)) (λ z. refl)
        (λ k. absurd (seen_stale N B s t b k (passed N B s t b taken p).number e))

    -- what the entry tells
    puts_stored : (x : FoundSlot) → entry_seen B s (get_or t b 0) ≡ Ok (Some x) → Puts N B (Some x) b c s t
    puts_stored x e = record { passed = p; seen = e; told = λ step. let k = in_step_kept N B s t step in sym (read_passed N B s b (seen_there N B s t b k (passed N B s t b taken p).number x e).code) }

    puts_new : entry_seen B s (get_or t b 0) ≡ Ok None → Puts N B None b c s t
    puts_new e = record { passed = p; seen = e; told = λ step. sym (seen_none N B s t b (in_step_kept N B s t step) (passed N B s t b taken p).number e) }

    pub puts_told : (f : Option FoundSlot) → entry_seen B s (get_or t b 0) ≡ Ok f → Puts N B f b c s t
    puts_told (Some x) e = puts_stored x e
    puts_told None e = puts_new e

  module _ (f : Option FoundSlot) (g : Puts N B f b c s t) (absent : Bool) (i : is_some f ≡ not absent) (d : Result PutPlan Answer) (w : Decides N B absent s d) where
    told : InStep N B s t → absent ≡ not (holds b (entries_in (view N B s)))
    told step = turned absent ∙ ap not (sym i ∙ g.told step)
      where
        turned : (x : Bool) → x ≡ not (not x)
        turned true = refl
        turned false = refl

    -- a plan refuses
    pub put_refused : (a : Answer) → d ≡ Err a → {q : Performed} → Refused a q → MountedPut N B b c budget (performed q s) s t t
    put_refused a e q =
        let i = passed N B s t b taken g.passed in
        let l = planned_listed a (refused_listed N B absent s d w a e) in
        refused_writes N B s t b taken _ (put b c) budget a q l.1 l.2 (λ n. absurd (n g.passed)) (λ z. l.0)
        (λ k. (refused_exact N B absent s d w a e k.fine b (told (kept_in_step N B s t k)) c i.number i.right).0)

    -- performed by a plan
    pub put_performed : (o : PutPlan) → d ≡ Ok o → Bytes s → {q : Performed} {u : Image} {x : Places} → Performs N B o.plan o.total b c budget q s u t x → MountedPut N B b c budget (performed q u) s t x
    unfolding performed among
    put_performed o e bytes {q} {u} {x} r = record {
      bound = λ n. absurd (n g.passed);
      listed = λ z. ⊎_elim (λ y. rw y) (λ y. rw y) r.codes;
      refused = λ n m. absurd (⊎_elim (λ y. n y) (λ y. m y) r.codes);
      cut = r.cut;
      past = r.past;
      few = r.few;
      same = λ step. (r.exact (in_step_kept N B s t step) there (agreed step)).0;
      kept = λ step z. kept_in_step N B u x ((r.exact (in_step_kept N B s t step) there (agreed step)).1 z);
    }
      where
        there : Option FoundSlot
        there = found_in N B o.plan.first.0 (rows_at N B s o.plan.used o.plan.first.0) b

        agreed : InStep N B s t → Accepted N B o.plan o.total there b c s
        agreed step =
            let i = passed N B s t b taken g.passed in
            let k = in_step_kept N B s t step in
            let a = accepted_agreed N B absent s d w o e k.fine b (told step) in record {
              put = record { plan = a.plan; bytes = bytes; number = i.number; taken = i.right };
              second = a.second;
              found = λ h. refl;
              space = a.space;
              fresh = a.fresh;
              tally = a.tally;
            }
