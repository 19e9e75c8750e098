-- Text in a lent buffer: the rule of request #101, and how a text gets there piece by piece.
use Rattle.std.specs.Prelude.{ℕ, ◌+◌, ◌≤◌, ◌≡◌, cond, List, ◌++◌, length, take, drop, leb}
use Prim.Native.String.{String}
use Rattle.model.specs.Answers.{code_of}
use Rattle.text.specs.Text.{text}
use Rattle.text.specs.Decimal.{decimal}
use Rattle.model.specs.declared.Answer.TheVariants.{Done, ShortBuffer}
use Rattle.text.specs.declared.Printed.{Printed}

-- ---- the rule

-- what printing gives: its answer, the text's length, and the whole buffer afterwards
pub record Print : Type 0 where
  pub code : ℕ
  pub length : ℕ
  pub buffer : List ℕ

-- what the code's answer says, with the buffer that it left
unfoldable pub printed : Printed → List ℕ → Print
printed p buffer = record { code = code_of p.answer; length = p.length; buffer = buffer }

-- a buffer too short for the text stays untouched: 14, and 0. Otherwise 0 and the text's length, the rest untouched
unfoldable pub print_in : List ℕ → List ℕ → Print
print_in t buffer =
    cond (leb (length t) (length buffer))
    (record { code = 0; length = length t; buffer = t ++ drop (length t) buffer })
    (record { code = 14; length = 0; buffer = buffer })

-- a buffer too short, and a text of so many bytes
unfoldable pub short_of : Printed
short_of = record { answer = ShortBuffer; length = 0 }

unfoldable pub done_of : ℕ → Printed
done_of n = record { answer = Done; length = n }

-- ---- pieces

-- a number behind its label
unfoldable pub labelled : String → ℕ → List ℕ
labelled w n = text w ++ decimal n

-- a buffer with bytes written over it from an offset on
unfoldable pub over : List ℕ → ℕ → List ℕ → List ℕ
over buffer at bytes = take at buffer ++ (bytes ++ drop (at + length bytes) buffer)

-- bytes added to a text that ends at an offset: where it ends now, whether the buffer holds it or not; and if it does, they are there. If it does not, what the buffer holds is left open
pub record Wrote (bytes start : List ℕ) (at : ℕ) (buffer : List ℕ) (end : ℕ) : Type 0 where
  pub ends : end ≡ at + length bytes
  pub kept : length buffer ≡ length start
  pub there : end ≤ length start → buffer ≡ over start at bytes

-- every text is shorter, so that offsets do not overflow
abbrev pub most_text : ℕ
most_text = 4294967296
