-- Texts as bytes.
use Rattle.std.specs.Prelude.{ℕ, List, [], ◌∷◌}
use Prim.Native.Char.{code}
use Prim.Native.String.{String, [] as no_text, ◌∷◌ as ◌then◌}

-- the bytes of a text of ASCII characters
unfoldable pub text : String → List ℕ
text no_text = []
text (c then s) = code c ∷ text s
