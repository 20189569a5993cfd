-- Texts cut at a mark.
use Rattle.std.specs.Prelude.{ℕ, Bool, ◌||◌, ◌==◌, [], ◌∷◌, Option, Some, None, if◌then◌else◌}
use Rattle.weave_text.specs.Lines.{Bytes}

-- a text cut at one of its bytes: what is before it, the byte, and what is after it
abbrev pub CutText : Type 0
CutText = Bytes × ℕ × Bytes

-- a cut of a text with this byte in front
abbrev pub cut_behind : ℕ → Option CutText → Option CutText
cut_behind byte None = None
cut_behind byte (Some (before, mark, behind)) = Some (byte ∷ before, mark, behind)

-- the text cut at its first byte of a kind, if it has one
abbrev pub cut_first : (ℕ → Bool) → Bytes → Option CutText
cut_first is_mark [] = None
cut_first is_mark (byte ∷ text) =
    if is_mark byte then Some ([], byte, text) else cut_behind byte (cut_first is_mark text)

-- the byte between a key and its value
abbrev pub is_equals : ℕ → Bool
is_equals byte = byte == 61

-- or between an edge's name and its target
abbrev pub is_item_mark : ℕ → Bool
is_item_mark byte = is_equals byte || (byte == 62)
