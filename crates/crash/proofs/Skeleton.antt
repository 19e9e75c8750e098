-- One lemma for each kind of event, from the laws of the single requests, and the induction over the history.
use Prim.Native.Nat.{ℕ, zero, suc}
use Rattle.std.specs.Prelude.{◌≡◌, ◌⊎◌, Bool, true, false, eqb}
use Rattle.std.proofs.Math.Path.{refl, sym, ap, ap₂}
use Rattle.std.proofs.Common.{◌∙◌, subst, inl, inr, arith}
use Rattle.std.proofs.Math.Logic.{⊎_elim}
use Rattle.std.proofs.Math.Bool.{cond}
use mathlib.Core.List.{List, [], ◌∷◌}
use borrow.Author.Tests.{ne_eqb}
use Rattle.model.specs.Chip.{Image, Bytes, right_size, run}
use Rattle.model.specs.State.{segments_of, distinct, State, clean, unfinished, damaged, state}
use Rattle.model.specs.Steps.{format_steps}
use Rattle.model.specs.Table.{Table, lookup, Agree, contents_found, table_of}
use Rattle.model.specs.Answers.{Request, format, put, delete, read, read_or, recover, work_of, piece_read}
use Rattle.model.specs.Histories.{Reply, bytes_read, Seen, answered, lost, Proper, Does, wears, Event, History, recovered, shown}
use Rattle.model.proofs.Laws.Chip.{cut_size, run_size}
use Rattle.model.proofs.Laws.Bytes.{cut_bytes, run_bytes}
use Rattle.model.proofs.Laws.Tables.{agree_of, agree_trans, agree_size}
use Rattle.bridge.specs.Views.Shape.{clean_distinct}
use Rattle.bridge.specs.Held.{clean_view}
use Rattle.bridge.specs.Accepted.{recover_none}
use Rattle.bridge.specs.Format.{format_bytes}
use Rattle.crash.specs.Machine.{malformed, plain_code, plain_bytes, plain, made, next, code_on_table, Promise, settled, interrupted, unknown, IsCut, OnTable, WantsRecovery, Holds, answers, answers_again, asks_recovery, refuses_malformed, not_begun, wholly_done, formats, format_cut, no_promise, PlainRuns, NoFormat}
use Rattle.crash.specs.Demand2.{Keeps, board}
use Rattle.crash.specs.Sound.{SoundAs, Sound, Clean, finished, CutOf, former_in, DoneWith, LeftWith, RequestLaws}
use Rattle.crash.proofs.Requests.{refused_idle, idle_finished, idle_cut, read_idle, read_or_idle, read_or_work, shown_clean, former_clean, sound_clean, read_refused, read_or_bytes, bytes_refused, ended, ended_or_stopped, code_clean, Unfinished, code_unfinished, code_recover, code_format, steps_format, malformed_small, code_agree, agree_made, distinct_made}
use Rattle.crash.specs.Invariant.{Stores, WillShow, Invariant, Follows}

-- ---- the table after a request with this code

abbrev after : Table → ℕ → Request → Table
after t n r = cond (eqb n 0) (made t r) t

after_refused : (t : Table) (n : ℕ) (r : Request) → after t (suc n) r ≡ t
after_refused t n r = rw (ne_eqb (suc n) 0 (λ e. omega arith))

agree_after : (t u : Table) (n : ℕ) (r : Request) → Agree t u → Agree (after t n r) (after u n r)
agree_after t u n r g = go (eqb n 0)
  where
    go : (x : Bool) → Agree (cond x (made t r) t) (cond x (made u r) u)
    go true = agree_made t u r g
    go false = g

distinct_after : (t : Table) (n : ℕ) (r : Request) → distinct t ≡ true → distinct (after t n r) ≡ true
distinct_after t n r q = go (eqb n 0)
  where
    go : (x : Bool) → distinct (cond x (made t r) t) ≡ true
    go true = distinct_made t r q
    go false = q

size_finished : (N B : ℕ) (s m : Image) (r : Request) → right_size N B s ≡ true → m ≡ finished N B s r → right_size N B m ≡ true
size_finished N B s m r z e = rw e (run_size N B (work_of N B s r).steps s ∙ z)

-- f tells whether the image has version 1
module _ (N B : ℕ) (f : Bool) (laws : RequestLaws N B) where
  -- ---- a request on a clean image

  idle_done : (s : Image) (r : Request) (t : Table) → Clean N B s → (work_of N B s r).steps ≡ [] → t ≡ table_of N B s → DoneWith N B (finished N B s r) t (former_in N B s)
  idle_done s r t h e m = rw (idle_finished N B s r e) (h, agree_of (table_of N B s) t (sym m), refl)

  idle_left : (s u : Image) (r : Request) (t : Table) → Clean N B s → (work_of N B s r).steps ≡ [] → CutOf N B s r u → LeftWith N B u (table_of N B s) t (former_in N B s)
  idle_left s u r t h e c = rw (idle_cut N B s u r e c) (sound_clean N B s h, inl (agree_of (shown N B s) (table_of N B s) (shown_clean N B s h)), former_clean N B s h)

  clean_done : (s : Image) (r : Request) → OnTable r → Proper r → right_size N B s ≡ true → Bytes s → Clean N B s → (n : ℕ) → (work_of N B s r).code ≡ n
      → DoneWith N B (finished N B s r) (after (table_of N B s) n r) (former_in N B s)
  unfolding made
  clean_done s r o p z y h (suc n) e = idle_done s r (after (table_of N B s) (suc n) r) h (refused_idle N B s r n e) (after_refused (table_of N B s) n r)
  clean_done s format o p z y h zero e = absurd o
  clean_done s (put b c) o p z y h zero e = laws.put_done s b c z y h p e
  clean_done s (delete b) o p z y h zero e = laws.delete_done s b z h e
  clean_done s (read b) o p z y h zero e = idle_done s (read b) (table_of N B s) h (read_idle N B s b) refl
  clean_done s (read_or b g) o p z y h zero e = idle_done s (read_or b g) (table_of N B s) h (read_or_idle N B s b g) refl
  clean_done s recover o p z y h zero e = idle_done s recover (table_of N B s) h (recover_none N B s h) refl

  clean_cut : (s u : Image) (r : Request) → OnTable r → Proper r → right_size N B s ≡ true → Bytes s → Clean N B s → CutOf N B s r u → (n : ℕ) → (work_of N B s r).code ≡ n
      → LeftWith N B u (table_of N B s) (after (table_of N B s) n r) (former_in N B s)
  unfolding made
  clean_cut s u r o p z y h c (suc n) e = idle_left s u r (after (table_of N B s) (suc n) r) h (refused_idle N B s r n e) c
  clean_cut s u format o p z y h c zero e = absurd o
  clean_cut s u (put b x) o p z y h c zero e = laws.put_cut s u b x z y h p e c
  clean_cut s u (delete b) o p z y h c zero e = laws.delete_cut s u b z h e c
  clean_cut s u (read b) o p z y h c zero e = idle_left s u (read b) (table_of N B s) h (read_idle N B s b) c
  clean_cut s u (read_or b g) o p z y h c zero e = idle_left s u (read_or b g) (table_of N B s) h (read_or_idle N B s b g) c
  clean_cut s u recover o p z y h c zero e = idle_left s u recover (table_of N B s) h (recover_none N B s h) c

  -- the bytes that a read hands back are the table's
  read_bytes : (s : Image) (t : Table) (b : ℕ) → right_size N B s ≡ true → Clean N B s → Agree (table_of N B s) t → (n : ℕ) → (work_of N B s (read b)).code ≡ n
      → piece_read N B s b ≡ cond (eqb n 0) (contents_found (lookup b t)) []
  read_bytes s t b z h g zero e = laws.read_done s b z h e ∙ ap contents_found (g b)
  read_bytes s t b z h g (suc n) e = read_refused N B s b n e ∙ rw (ne_eqb (suc n) 0 (λ k. omega arith))

  swap : (n : ℕ) (x f : List ℕ) → cond (eqb n 6) f (cond (eqb n 0) x []) ≡ cond (eqb n 0) x (cond (eqb n 6) f [])
  swap zero x f = refl
  swap (suc n) x f = rw (ne_eqb (suc n) 0 (λ k. omega arith))

  bytes_clean : (s : Image) (t : Table) (r : Request) → right_size N B s ≡ true → Clean N B s → Agree (table_of N B s) t → bytes_read N B s r ≡ plain_bytes t (work_of N B s r).code r
  unfolding bytes_read plain_bytes
  bytes_clean s t format z h g = refl
  bytes_clean s t (put b c) z h g = refl
  bytes_clean s t (delete b) z h g = refl
  bytes_clean s t (read b) z h g = read_bytes s t b z h g (work_of N B s (read b)).code refl
  bytes_clean s t (read_or b d) z h g =
      let n = (work_of N B s (read b)).code in
      rw (read_or_work N B s b d) (read_or_bytes N B s b d ∙ (ap (λ y. cond (eqb n 6) d y) (read_bytes s t b z h g n refl) ∙ swap n (contents_found (lookup b t)) d))
  bytes_clean s t recover z h g = refl

  -- ---- an event on a clean image that stores t

  module _ (s m : Image) (t : Table) (r : Request) (o : OnTable r) (p : Proper r) (z : right_size N B s ≡ true) (k : Stores N B f s t) where
    plain_code_lem : (work_of N B s r).code ≡ plain_code (board N B f) (wears N B s) t r
    unfolding table_of
    plain_code_lem = code_clean N B s z k.clean r o
        ∙ (ap (λ (y : Bool). plain_code (board N B y) (wears N B s) (table_of N B s) r) k.version
        ∙ code_agree (board N B f) (wears N B s) (table_of N B s) t k.table (agree_size (table_of N B s) t (clean_distinct (clean_view N B s z k.clean)) k.once k.table) r)

    plain_reply : ended N B s r ≡ plain (board N B f) (wears N B s) t r
    unfolding ended plain
    plain_reply = ap₂ (λ (n : ℕ) (y : List ℕ). reply n y) plain_code_lem (bytes_clean s t r z k.clean k.table ∙ ap (λ (n : ℕ). plain_bytes t n r) plain_code_lem)
      where
        reply : ℕ → List ℕ → Reply
        reply n y = record { code = n; bytes = y }

    plain_next : after t (work_of N B s r).code r ≡ next (board N B f) (wears N B s) t r
    unfolding next
    plain_next = ap (λ (n : ℕ). after t n r) plain_code_lem

    stored_next : m ≡ finished N B s r → Stores N B f m (next (board N B f) (wears N B s) t r)
    stored_next e =
        let n = (work_of N B s r).code in
        let d = clean_done s r o p z k.bytes k.clean n refl in
        rw (e, ← plain_next) (record {
          clean = d.0;
          version = d.2 ∙ k.version;
          table = agree_trans (table_of N B (finished N B s r)) (after (table_of N B s) n r) (after t n r) d.1 (agree_after (table_of N B s) t n r k.table);
          once = distinct_after t n r k.once;
          bytes = run_bytes B (work_of N B s r).steps s k.bytes;
        })

    clean_interrupted : (x : Promise) → Holds x t → (u : Seen) → IsCut u → CutOf N B s r m → Follows N B f (wears N B s) r u x m
    clean_interrupted x held u i c =
        let n = (work_of N B s r).code in
        let d = clean_cut s m r o p z k.bytes k.clean c n refl in
        let zm = cut_size N B (work_of N B s r).steps s m c ∙ z in
        let ym = cut_bytes B (work_of N B s r).steps s m c k.bytes in
        ⊎_elim
        (λ old. (
          interrupted t,
          not_begun t held o i,
          (zm, record { sound = d.0; version = d.2 ∙ k.version; table = agree_trans (shown N B m) (table_of N B s) t old k.table; once = k.once; bytes = ym }),
        ))
        (λ new. (
          interrupted (next (board N B f) (wears N B s) t r),
          wholly_done t held o i,
          (
            zm,
            rw (← plain_next) (record {
              sound = d.0;
              version = d.2 ∙ k.version;
              table = agree_trans (shown N B m) (after (table_of N B s) n r) (after t n r) new (agree_after (table_of N B s) t n r k.table);
              once = distinct_after t n r k.once;
              bytes = ym;
            }),
          ),
        ))
        d.1

  -- ---- an event on an image that will show t

  -- clean, or unfinished
  clean_or_unfinished : (s : Image) → Sound N B s → Clean N B s ⊎ Unfinished N B s
  clean_or_unfinished s h = go (state N B s) refl h
    where
      go : (y : State) → state N B s ≡ y → SoundAs N B s (segments_of N B s) y → Clean N B s ⊎ Unfinished N B s
      go clean e k = inl e
      go (unfinished x) e k = inr (x, e)
      go damaged e k = absurd k

  stores_clean : (s : Image) (t : Table) → Clean N B s → WillShow N B f s t → Stores N B f s t
  stores_clean s t h k = record {
    clean = h;
    version = sym (former_clean N B s h) ∙ k.version;
    table = agree_trans (table_of N B s) (shown N B s) t (agree_of (table_of N B s) (shown N B s) (sym (shown_clean N B s h))) k.table;
    once = k.once;
    bytes = k.bytes;
  }

  -- refused as malformed, on any image: nothing changes
  refuses : (s m : Image) (t : Table) (r : Request) (n : ℕ) → right_size N B s ≡ true → WillShow N B f s t → malformed r ≡ suc n → (work_of N B s r).code ≡ suc n
      → (w : Bool) (u : Seen) → u ≡ answered (ended N B s r) → m ≡ finished N B s r → Follows N B f w r u (interrupted t) m
  unfolding ended
  refuses s m t r n z k f e w u i d = (
    interrupted t,
    refuses_malformed n f (i ∙ rw (e, bytes_refused N B s r n e (λ six. omega (arith, malformed_small r)))),
    rw (d, idle_finished N B s r (refused_idle N B s r n e)) (z, k),
  )

  module _ (s m : Image) (t : Table) (z : right_size N B s ≡ true) (k : WillShow N B f s t) (h : Unfinished N B s) where
    wants_code : (r : Request) → WantsRecovery r → (n : ℕ) → malformed r ≡ n → (work_of N B s r).code ≡ cond (eqb n 0) 5 n
    wants_code r q n e = code_unfinished N B s z h r q ∙ ap (λ (y : ℕ). cond (eqb y 0) 5 y) e

    -- put, delete and read take no step
    wants_idle : (r : Request) → WantsRecovery r → (work_of N B s r).steps ≡ []
    wants_idle r q = go (malformed r) (wants_code r q (malformed r) refl)
      where
        go : (n : ℕ) → (work_of N B s r).code ≡ cond (eqb n 0) 5 n → (work_of N B s r).steps ≡ []
        go zero e = refused_idle N B s r 4 e
        go (suc n) e = refused_idle N B s r n (e ∙ rw (ne_eqb (suc n) 0 (λ y. omega arith)))

    wants_interrupted : (r : Request) → WantsRecovery r → OnTable r → (w : Bool) (u : Seen) → IsCut u → CutOf N B s r m → Follows N B f w r u (interrupted t) m
    wants_interrupted r q o w u i c = (interrupted t, not_begun t refl o i, rw (idle_cut N B s m r (wants_idle r q) c) (z, k))

    wants_ends : (r : Request) → WantsRecovery r → (w : Bool) (u : Seen) → u ≡ answered (ended N B s r) → m ≡ finished N B s r → Follows N B f w r u (interrupted t) m
    unfolding ended
    wants_ends r q w u i d = go (malformed r) refl
      where
        go : (n : ℕ) → malformed r ≡ n → Follows N B f w r u (interrupted t) m
        go zero e =
            let five : (work_of N B s r).code ≡ 5 = wants_code r q 0 e in
            (interrupted t, asks_recovery q e (i ∙ rw (five, bytes_refused N B s r 4 five (λ six. omega (arith, six)))), rw (d, idle_finished N B s r (wants_idle r q)) (z, k))
        go (suc n) e = refuses s m t r n z k e (wants_code r q (suc n) e ∙ rw (ne_eqb (suc n) 0 (λ y. omega arith))) w u i d

    recover_interrupted : (w : Bool) (u : Seen) → IsCut u → CutOf N B s recover m → Follows N B f w recover u (interrupted t) m
    recover_interrupted w u i c =
        let d = laws.recover_cut s m z k.sound c in (
          interrupted t,
          not_begun t refl tt i,
          (
            cut_size N B (work_of N B s recover).steps s m c ∙ z,
            record {
              sound = d.0;
              version = d.2 ∙ k.version;
              table = agree_trans (shown N B m) (shown N B s) t d.1 k.table;
              once = k.once;
              bytes = cut_bytes B (work_of N B s recover).steps s m c k.bytes;
            },
          ),
        )

    recover_ends : (w : Bool) (u : Seen) → u ≡ answered (ended N B s recover) → m ≡ finished N B s recover → Follows N B f w recover u (interrupted t) m
    unfolding malformed recovered shown ended plain plain_code code_on_table plain_bytes bytes_read next made
    recover_ends w u i e = (
      settled t,
      answers_again {t = t} tt refl (i ∙ rw (code_recover N B s z h)),
      (
        size_finished N B s m recover z e,
        rw e (record
            { clean = laws.recover_done s z k.sound; version = k.version; table = k.table; once = k.once; bytes = run_bytes B (work_of N B s recover).steps s k.bytes }),
      ),
    )

  -- ---- one event, whatever the promise

  request_cut : (s m : Image) (x : Promise) (r : Request) → OnTable r → Proper r → Invariant N B f s x → (u : Seen) → IsCut u → CutOf N B s r m → Follows N B f (wears N B s) r u x m
  request_cut s m unknown r o p (z, k) u i c = (unknown, no_promise o, (cut_size N B (work_of N B s r).steps s m c ∙ z, tt))
  request_cut s m (settled t) r o p (z, k) u i c = clean_interrupted s m t r o p z k (settled t) refl u i c
  request_cut s m (interrupted t) r o p (z, k) u i c =
      ⊎_elim (λ h. clean_interrupted s m t r o p z (stores_clean s t h k) (interrupted t) refl u i c) (λ h. by_request r o h c) (clean_or_unfinished s k.sound)
    where
      by_request : (a : Request) → OnTable a → Unfinished N B s → CutOf N B s a m → Follows N B f (wears N B s) a u (interrupted t) m
      by_request format oa h d = absurd oa
      by_request (put b v) oa h d = wants_interrupted s m t z k h (put b v) tt tt (wears N B s) u i d
      by_request (delete b) oa h d = wants_interrupted s m t z k h (delete b) tt tt (wears N B s) u i d
      by_request (read b) oa h d = wants_interrupted s m t z k h (read b) tt tt (wears N B s) u i d
      by_request (read_or b g) oa h d = wants_interrupted s m t z k h (read_or b g) tt tt (wears N B s) u i d
      by_request recover oa h d = recover_interrupted s m t z k h (wears N B s) u i d

  request_ends : (s m : Image) (x : Promise) (r : Request) → OnTable r → Proper r → Invariant N B f s x → (u : Seen) → u ≡ answered (ended N B s r) → m ≡ finished N B s r
      → Follows N B f (wears N B s) r u x m
  unfolding plain_code
  request_ends s m unknown r o p (z, k) u i e = (unknown, no_promise o, (size_finished N B s m r z e, tt))
  request_ends s m (settled t) r o p (z, k) u i e =
      (settled (next (board N B f) (wears N B s) t r), answers o (i ∙ ap answered (plain_reply s m t r o p z k)), (size_finished N B s m r z e, stored_next s m t r o p z k e))
  request_ends s m (interrupted t) r o p (z, k) u i e =
      ⊎_elim (λ h. still_clean (malformed r) refl (stores_clean s t h k)) (λ h. by_request r o h i e) (clean_or_unfinished s k.sound)
    where
      still_clean : (n : ℕ) → malformed r ≡ n → Stores N B f s t → Follows N B f (wears N B s) r u (interrupted t) m
      still_clean zero proper q =
          (settled (next (board N B f) (wears N B s) t r), answers_again o proper (i ∙ ap answered (plain_reply s m t r o p z q)), (size_finished N B s m r z e, stored_next s m t r o p z q e))
      still_clean (suc n) bad q = refuses s m t r n z k bad (plain_code_lem s m t r o p z q ∙ rw (bad, ne_eqb (suc n) 0 (λ y. omega arith))) (wears N B s) u i e

      by_request : (a : Request) → OnTable a → Unfinished N B s → u ≡ answered (ended N B s a) → m ≡ finished N B s a → Follows N B f (wears N B s) a u (interrupted t) m
      by_request format oa h ia d = absurd oa
      by_request (put b v) oa h ia d = wants_ends s m t z k h (put b v) tt (wears N B s) u ia d
      by_request (delete b) oa h ia d = wants_ends s m t z k h (delete b) tt (wears N B s) u ia d
      by_request (read b) oa h ia d = wants_ends s m t z k h (read b) tt (wears N B s) u ia d
      by_request (read_or b g) oa h ia d = wants_ends s m t z k h (read_or b g) tt (wears N B s) u ia d
      by_request recover oa h ia d = recover_ends s m t z k h (wears N B s) u ia d

  -- a format, from any image
  format_interrupted : (s m : Image) (x : Promise) → right_size N B s ≡ true → (w : Bool) (u : Seen) → IsCut u → CutOf N B s format m → Follows N B f w format u x m
  format_interrupted s m x z w u i c = (unknown, format_cut refl i, (cut_size N B (work_of N B s format).steps s m c ∙ z, tt))

  format_ends : (s m : Image) (x : Promise) → f ≡ false → right_size N B s ≡ true → (w : Bool) (u : Seen) → u ≡ answered (ended N B s format) → m ≡ finished N B s format → Follows N B f w format u x m
  unfolding ended bytes_read distinct
  format_ends s m x new z w u i e =
      let d = laws.format_done s z in
      let v : m ≡ run B (format_steps N B) s = e ∙ ap (λ y. run B y s) (steps_format N B s z) in (
        settled [],
        formats refl (i ∙ rw (code_format N B s z)),
        (
          size_finished N B s m format z e,
          rw v (record
              { clean = d.0; version = d.2 ∙ sym new; table = agree_of (table_of N B (run B (format_steps N B) s)) [] d.1; once = refl; bytes = format_bytes N B s z }),
        ),
      )

  -- ended, stopped at the allowance, or lost
  on_table : (s m : Image) (x : Promise) (r : Request) → OnTable r → Proper r → Invariant N B f s x → (u : Seen) → Does N B r u s m → Follows N B f (wears N B s) r u x m
  on_table s m x r o p k lost c = request_cut s m x r o p k lost (inl refl) c
  on_table s m x r o p k (answered y) (allowance, e, left) = ⊎_elim
      (λ ends. request_ends s m x r o p k (answered y) (ap answered (e ∙ ends.reply)) (left ∙ ends.image))
      (λ stops. request_cut s m x r o p k (answered y) (inr (ap answered (e ∙ stops.reply))) (rw left stops.image))
      (ended_or_stopped N B s allowance r)

  on_format : (s m : Image) (x : Promise) → f ≡ false → right_size N B s ≡ true → (u : Seen) → Does N B format u s m → Follows N B f (wears N B s) format u x m
  on_format s m x new z lost c = format_interrupted s m x z (wears N B s) lost (inl refl) c
  on_format s m x new z (answered y) (allowance, e, left) = ⊎_elim
      (λ ends. format_ends s m x new z (wears N B s) (answered y) (ap answered (e ∙ ends.reply)) (left ∙ ends.image))
      (λ stops. format_interrupted s m x z (wears N B s) (answered y) (inr (ap answered (e ∙ stops.reply))) (rw left stops.image))
      (ended_or_stopped N B s allowance format)

  -- an image of version 1 is one until it is formatted
  abbrev pub May : Request → Type 0
  May format = f ≡ false
  May (put b c) = Unit {0}
  May (delete b) = Unit {0}
  May (read b) = Unit {0}
  May (read_or b g) = Unit {0}
  May recover = Unit {0}

  abbrev pub AllMay : List Event → Type 0
  AllMay [] = Unit {0}
  AllMay (e ∷ es) = May e.request × AllMay es

  pub one_event : (s m : Image) (x : Promise) (r : Request) → May r → Proper r → Invariant N B f s x → (u : Seen) → Does N B r u s m → Follows N B f (wears N B s) r u x m
  one_event s m x format may p k u d = on_format s m x may k.0 u d
  one_event s m x (put b c) may p k u d = on_table s m x (put b c) tt p k u d
  one_event s m x (delete b) may p k u d = on_table s m x (delete b) tt p k u d
  one_event s m x (read b) may p k u d = on_table s m x (read b) tt p k u d
  one_event s m x (read_or b g) may p k u d = on_table s m x (read_or b g) tt p k u d
  one_event s m x recover may p k u d = on_table s m x recover tt p k u d

  -- ---- the history

  history : (es : List Event) (s u : Image) (x : Promise) → AllMay es → Invariant N B f s x → History N B s es u → (y : Promise) × PlainRuns (board N B f) x es y × Invariant N B f u y
  history [] s u x may k e = (x, refl, rw e k)
  history (v ∷ es) s u x may k (p, w, (m, d, rest)) =
      let a = one_event s m x v.request may.0 p k v.seen d in
      let b = history es m u a.0 may.1 a.2 rest in
      (b.0, (a.0, rw w a.1, b.1), b.2)

  keeps : (s : Image) (x : Promise) → Invariant N B f s x → Keeps N B s x
  keeps s (settled t) (z, k) = (k.clean, k.table)
  keeps s (interrupted t) (z, k) = ((λ e. subst (λ y. SoundAs N B s (segments_of N B s) y) e k.sound), laws.recover_done s z k.sound, k.table)
  keeps s unknown k = tt

  -- from an image that keeps a promise
  pub runs_on : (es : List Event) (s u : Image) (x : Promise) → AllMay es → Invariant N B f s x → History N B s es u → (y : Promise) × PlainRuns (board N B f) x es y × Keeps N B u y
  runs_on es s u x may k runs = let a = history es s u x may k runs in (a.0, a.1, keeps u a.0 a.2)

  pub unformatted : (es : List Event) → NoFormat es → AllMay es
  unformatted [] h = tt
  unformatted (e ∷ es) h = (by_request e.request h.0, unformatted es h.1)
    where
      by_request : (r : Request) → OnTable r → May r
      by_request format o = absurd o
      by_request (put b c) o = tt
      by_request (delete b) o = tt
      by_request (read b) o = tt
      by_request (read_or b g) o = tt
      by_request recover o = tt
