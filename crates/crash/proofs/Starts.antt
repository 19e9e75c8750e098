-- Where a history may start: demand 2 from the laws of the single requests, from any image, a clean one of either version, and a board of version 1 that lost its power.
use Rattle.std.specs.Prelude.{ℕ, ◌≡◌, refl, Bool, true, false, List, [], ◌∷◌}
use Rattle.std.proofs.Common.{◌∙◌}
use Rattle.model.specs.Chip.{Image, Bytes, right_size, run}
use Rattle.model.specs.State.{distinct, clean}
use Rattle.model.specs.Steps.{format_steps}
use Rattle.model.specs.Table.{table_of}
use Rattle.model.specs.Answers.{Request, format, put, delete, read, read_or, recover, work_of}
use Rattle.model.specs.Histories.{Event, recovered, shown}
use Rattle.model.proofs.Laws.Chip.{run_size}
use Rattle.model.proofs.Laws.Tables.{agree_of}
use Rattle.bridge.specs.Views.Shape.{clean_distinct}
use Rattle.bridge.specs.Held.{clean_view}
use Rattle.bridge.specs.Format.{format_bytes}
use Rattle.crash.specs.Machine.{settled, interrupted, unknown}
use Rattle.crash.specs.Demand2.{Demand2, FromClean, FromFormer, FromFormerLeft}
use Rattle.crash.specs.Sound.{Sound, Clean, former_in, former_shown, RequestLaws}
use Rattle.crash.specs.Invariant.{Stores, WillShow}
use Rattle.crash.proofs.Skeleton.{May, AllMay, runs_on, unformatted}

-- on version 2 a format may come at any time
all_may : (N B : ℕ) (laws : RequestLaws N B) (es : List Event) → AllMay N B false laws es
all_may N B laws [] = tt
all_may N B laws (e ∷ es) = (by_request e.request, all_may N B laws es)
  where
    by_request : (r : Request) → May N B false laws r
    by_request format = refl
    by_request (put b c) = tt
    by_request (delete b) = tt
    by_request (read b) = tt
    by_request (read_or b g) = tt
    by_request recover = tt

stores : (N B : ℕ) (f : Bool) (s : Image) → right_size N B s ≡ true → Bytes s → Clean N B s → former_in N B s ≡ f → Stores N B f s (table_of N B s)
unfolding table_of
stores N B f s z y k v = record { clean = k; version = v; table = λ b. refl; once = clean_distinct (clean_view N B s z k); bytes = y }

-- a finished format leaves an image that stores nothing
pub formatted_stores : (N B : ℕ) (laws : RequestLaws N B) (s : Image) → right_size N B s ≡ true → Stores N B false (run B (format_steps N B) s) []
unfolding distinct
formatted_stores N B laws s z = let d = laws.format_done s z in
    record { clean = d.0; version = d.2; table = agree_of (table_of N B (run B (format_steps N B) s)) [] d.1; once = refl; bytes = format_bytes N B s z }

pub demand2_from : ((N B : ℕ) → RequestLaws N B) → Demand2
demand2_from laws N B s u es z runs = runs_on N B false (laws N B) es s u unknown (all_may N B (laws N B) es) (z, tt) runs

pub clean_from : ((N B : ℕ) → RequestLaws N B) → FromClean
clean_from laws N B s u es z y k v runs = runs_on N B false (laws N B) es s u (settled (table_of N B s)) (all_may N B (laws N B) es) (z, stores N B false s z y k v) runs

pub former_from : ((N B : ℕ) → RequestLaws N B) → FromFormer
former_from laws N B s u es z y k v runs none =
    runs_on N B true (laws N B) es s u (settled (table_of N B s)) (unformatted N B true (laws N B) es none) (z, stores N B true s z y k v) runs

-- an image as a cut leaves it will show a table of a clean one
will_show : (N B : ℕ) (f : Bool) (laws : RequestLaws N B) (s : Image) → right_size N B s ≡ true → Bytes s → Sound N B s → former_shown N B s ≡ f → WillShow N B f s (shown N B s)
unfolding table_of recovered shown
will_show N B f laws s z y k v = record {
  sound = k;
  version = v;
  table = λ b. refl;
  once = clean_distinct (clean_view N B (recovered N B s) (run_size N B (work_of N B s recover).steps s ∙ z) (laws.recover_done s z k));
  bytes = y;
}

pub former_left_from : ((N B : ℕ) → RequestLaws N B) → FromFormerLeft
former_left_from laws N B s u es z y k v runs none =
    runs_on N B true (laws N B) es s u (interrupted (shown N B s)) (unformatted N B true (laws N B) es none) (z, will_show N B true (laws N B) s z y k v) runs
