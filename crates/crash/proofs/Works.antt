-- What a request can do on an image as demand 2 knows it: nothing; or it is an accepted put or delete on a clean image, or a recovery on an unfinished one.
-- Theorems over histories go by this, request by request.
use Rattle.std.specs.Prelude.{ℕ, zero, suc, ◌≡◌, refl, true, false, cond, List, [], eqb}
use Rattle.std.proofs.Common.{◌∙◌, arith, ne_eqb}
use Rattle.model.specs.Chip.{Image, Bytes, right_size}
use Rattle.model.specs.State.{segments_of, Exception, State, clean, unfinished, damaged, state}
use Rattle.model.specs.Answers.{Request, format, put, delete, read, read_or, recover, work_of}
use Rattle.model.specs.Histories.{Proper}
use Rattle.bridge.specs.Accepted.{recover_none}
use Rattle.crash.specs.Machine.{malformed, OnTable, WantsRecovery}
use Rattle.crash.specs.Sound.{SoundAs, Sound, Clean, Accepted, RequestLaws}
use Rattle.crash.proofs.Requests.{refused_idle, read_idle, read_or_idle, Unfinished, code_unfinished}
use Rattle.crash.proofs.Skeleton.{May}

pub data Works (N B : ℕ) (s : Image) : Request → Type 0 where
  idle : {r : Request} → (work_of N B s r).steps ≡ [] → Works N B s r
  puts : (b : ℕ) (c : List ℕ) → Clean N B s → Bytes c → Accepted N B s (put b c) → Works N B s (put b c)
  deletes : (b : ℕ) → Clean N B s → Accepted N B s (delete b) → Works N B s (delete b)
  recovers : (x : Exception) → state N B s ≡ unfinished x → Works N B s recover

module _ (N B : ℕ) (s : Image) (z : right_size N B s ≡ true) where
  on_clean : (r : Request) → OnTable r → Proper r → Clean N B s → Works N B s r
  on_clean r o p h = go (work_of N B s r).code refl
    where
      by_request : (a : Request) → OnTable a → Proper a → (work_of N B s a).code ≡ 0 → Works N B s a
      by_request format oa pa e = absurd oa
      by_request (put b v) oa pa e = puts b v h pa e
      by_request (delete b) oa pa e = deletes b h e
      by_request (read b) oa pa e = idle (read_idle N B s b)
      by_request (read_or b f) oa pa e = idle (read_or_idle N B s b f)
      by_request recover oa pa e = idle (recover_none N B s h)

      go : (n : ℕ) → (work_of N B s r).code ≡ n → Works N B s r
      go zero e = by_request r o p e
      go (suc n) e = idle (refused_idle N B s r n e)

  on_unfinished : (r : Request) → OnTable r → Unfinished N B s → Works N B s r
  on_unfinished r o f = by_request r o
    where
      asks : (a : Request) → WantsRecovery a → (work_of N B s a).steps ≡ []
      asks a w = go (malformed a) (code_unfinished N B s z f a w)
        where
          go : (n : ℕ) → (work_of N B s a).code ≡ cond (eqb n 0) 5 n → (work_of N B s a).steps ≡ []
          go zero e = refused_idle N B s a 4 e
          go (suc n) e = refused_idle N B s a n (e ∙ rw (ne_eqb (suc n) 0 (λ q. omega arith)))

      by_request : (a : Request) → OnTable a → Works N B s a
      by_request format oa = absurd oa
      by_request (put b v) oa = idle (asks (put b v) tt)
      by_request (delete b) oa = idle (asks (delete b) tt)
      by_request (read b) oa = idle (asks (read b) tt)
      by_request (read_or b g) oa = idle (asks (read_or b g) tt)
      by_request recover oa = recovers f.0 f.1

  pub works : (r : Request) → OnTable r → Proper r → Sound N B s → Works N B s r
  works r o p h = go (state N B s) refl h
    where
      go : (x : State) → state N B s ≡ x → SoundAs N B s (segments_of N B s) x → Works N B s r
      go clean e k = on_clean r o p e
      go (unfinished x) e k = on_unfinished r o (x, e)
      go damaged e k = absurd k

-- on a board of version 2 every request but a format may be asked
pub may : (N B : ℕ) (laws : RequestLaws N B) (r : Request) → OnTable r → May N B false laws r
may N B laws format o = absurd o
may N B laws (put b c) o = tt
may N B laws (delete b) o = tt
may N B laws (read b) o = tt
may N B laws (read_or b f) o = tt
may N B laws recover o = tt
