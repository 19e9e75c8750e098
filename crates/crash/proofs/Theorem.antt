-- Demand 2, proved: every history of the store is a history of the plain table.
use Rattle.std.specs.Prelude.{ℕ, ◌≡◌, refl, true, List, []}
use Rattle.std.proofs.Math.Path.{ap}
use Rattle.std.proofs.Common.{◌∙◌}
use Rattle.std.proofs.Math.Bool.{false}
use Rattle.model.specs.Chip.{Image, Bytes, right_size, run}
use Rattle.model.specs.Header.{new_version, is_former}
use Rattle.model.specs.State.{View, entries_in}
use Rattle.model.specs.Steps.{format_steps}
use Rattle.model.specs.Table.{store, table_of}
use Rattle.model.specs.Answers.{put}
use Rattle.bridge.specs.Predicted.{fresh}
use Rattle.bridge.specs.Requests.{put_done, after_table, after_former}
use Rattle.bridge.specs.Format.{format_done, fresh_table}
use Rattle.crash.specs.Demand2.{Demand2, FromClean, FromFormer, FromFormerLeft}
use Rattle.crash.specs.Sound.{Clean, finished, Accepted, former_in, DoneWith, RequestLaws}
use Rattle.crash.proofs.Starts.{demand2_from, clean_from, former_from, former_left_from}
use Rattle.crash.proofs.States.{kept_shows}
use Rattle.crash.proofs.Recover.{recover_done, recover_cut}
use Rattle.crash.proofs.Read.{read_done}
use Rattle.crash.proofs.Delete.{finished_delete, delete_cut}
use Rattle.crash.proofs.PutCut.{put_cut}

module _ (N B : ℕ) where
  finished_format : (s : Image) → right_size N B s ≡ true → Clean N B (run B (format_steps N B) s) × (table_of N B (run B (format_steps N B) s) ≡ []) × (former_in N B (run B (format_steps N B) s) ≡ false)
  unfolding table_of
  finished_format s z =
      let d = format_done N B s z in
      let version : is_former (fresh B).version ≡ false = (unfold fresh new_version is_former in refl) in
      (d.0, ap entries_in d.1 ∙ fresh_table B, ap (λ (y : View). is_former y.version) d.1 ∙ version)

  finished_put : (s : Image) (b : ℕ) (c : List ℕ) → right_size N B s ≡ true → Bytes s → Clean N B s → Bytes c → Accepted N B s (put b c)
      → DoneWith N B (finished N B s (put b c)) (store b c (table_of N B s)) (former_in N B s)
  unfolding table_of
  finished_put s b c z y h yc e =
      let d = put_done N B s z h b c y yc e in (d.0, rw d.1 (after_table N B s z h b c y yc e), ap (λ (x : View). is_former x.version) d.1 ∙ after_former N B s z h b c y yc e)

  pub request_laws : RequestLaws N B
  request_laws = record {
    format_done = finished_format;
    put_done = finished_put;
    put_cut = put_cut N B;
    delete_done = λ s b z h a. finished_delete N B s b z h a;
    delete_cut = λ s u b z h a c. delete_cut N B s b z h a u c;
    read_done = read_done N B;
    recover_done = recover_done N B;
    recover_cut = λ s u z h c. kept_shows N B s u (recover_cut N B s u z h c);
  }

pub demand2 : Demand2
demand2 = demand2_from request_laws

pub from_clean : FromClean
from_clean = clean_from request_laws

pub from_former : FromFormer
from_former = former_from request_laws

pub from_former_left : FromFormerLeft
from_former_left = former_left_from request_laws
