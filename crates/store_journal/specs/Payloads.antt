-- The commit that the payload of a record says: a byte for the version, the stamp's epoch and own count as eight bytes
-- each, the most significant first, and the operations as lines of a script.
use Rattle.std.specs.Prelude.{◌≡◌, ℕ, ◌≤◌, ◌<◌, ◌^◌, Bool, ◌&&◌, ◌==◌, nat_le, nat_lt, List, [], ◌∷◌, ◌++◌, length, drop, map, Option, Some, None, Ok, Err, if◌then◌else◌}
use Rattle.std.specs.Int.{w64, to_be_bytes, from_be_bytes}
use Rattle.std.specs.List.{AllByRecursion, list_any}
use Rattle.std.specs.Str.{bytes_eq}
use Rattle.weave_data.specs.Limits.{most_ops}
use Rattle.vector_stamp.specs.Order.{own_count}
use Rattle.vector_stamp.specs.declared.clock.Stamp.{Stamp}
use Rattle.graph_ops.specs.declared.op.Op.{Op}
use Rattle.weave_text.specs.Cutting.{lines_of, words_of}
use Rattle.weave_text.specs.Lines.{Bytes, lines_text}
use Rattle.weave_script.specs.Fields.{ReadOrCause}
use Rattle.weave_script.specs.Ops.{op_in_line}
use Rattle.weave_script.specs.ScriptLines.{is_join, op_line}
use Rattle.weave_script.specs.Scripts.{IsOfVersion, IsOperation}
use Rattle.store_journal.specs.Journal.{onward}
use Rattle.store_journal.specs.declared.kept_commit.Commit.{Commit}

-- the stamp of gatekeeper 0 in this epoch with this own count, and no other
abbrev pub kept_stamp : ℕ → ℕ → Stamp
kept_stamp epoch count = record {
  home = 0;
  clock = record { epoch = epoch; counts = count ∷ 0 ∷ 0 ∷ 0 ∷ 0 ∷ 0 ∷ 0 ∷ 0 ∷ [] };
}

-- one of the operations is a join: then their version is 2
abbrev pub has_join : List Op → Bool
has_join ops = list_any is_join ops

-- the byte of the version of these operations
abbrev pub version_byte : List Op → ℕ
version_byte ops = if has_join ops then 2 else 1

-- the stamp's epoch and own count, as eight bytes each
abbrev pub stamp_bytes : Stamp → Bytes
stamp_bytes stamp = to_be_bytes w64 stamp.clock.epoch ++ to_be_bytes w64 (own_count stamp)

-- the operations as lines of a script, each with its line feed
abbrev pub ops_text : List Op → Bytes
ops_text ops = lines_text (map op_line ops)

-- the payload of a commit
abbrev pub payload_of : Commit → Bytes
payload_of commit = version_byte commit.ops ∷ (stamp_bytes commit.stamp ++ ops_text commit.ops)

-- at most 64 operations of one version, whose fields are names
pub record AreKeptOps (ops : List Op) : Type 0 where
  pub few : length ops ≤ most_ops
  pub names : AllByRecursion IsOperation ops
  pub version : AllByRecursion (IsOfVersion (has_join ops)) ops

-- the payload says this commit: its stamp is of gatekeeper 0 alone, its operations are within the limits of a script,
-- and it is written so
pub record Says (payload : Bytes) (commit : Commit) : Type 0 where
  pub stamp : commit.stamp ≡ kept_stamp commit.stamp.clock.epoch (own_count commit.stamp)
  pub ops : AreKeptOps commit.ops
  pub payload_is : payload ≡ payload_of commit

-- the epoch and the own count have 64 bits
abbrev pub Has64Bits : Stamp → Type 0
Has64Bits stamp = (stamp.clock.epoch < 2 ^ 64) × (own_count stamp < 2 ^ 64)

-- what follows for the operation, if the line was read
abbrev pub onward_read : {X : Type 0} → ReadOrCause Op → (Op → Option X) → Option X
onward_read (Ok op) rest = rest op
onward_read (Err cause) rest = None

-- these operations and those of the lines after them
abbrev pub ops_after : Bool → List Op → List Bytes → Option (List Op)
ops_after joins ops [] = Some ops
ops_after joins ops (line ∷ lines) =
    onward_read (op_in_line joins (words_of line)) (λ op. ops_after joins (ops ++ op ∷ []) lines)

-- the commit with this stamp and these operations
abbrev pub commit_with : Stamp → List Op → Commit
commit_with stamp ops = record { stamp = stamp; ops = ops }

-- the commit, if it has at most 64 operations and this is its payload
abbrev pub if_written_so : Bytes → Commit → Option Commit
if_written_so payload commit =
    if nat_le (length commit.ops) most_ops && bytes_eq (payload_of commit) payload then Some commit else None

-- the stamp that the first sixteen of these bytes say
abbrev pub stamp_of_bytes : Bytes → Stamp
stamp_of_bytes bytes = kept_stamp (from_be_bytes w64 bytes) (from_be_bytes w64 (drop 8 bytes))

-- the commit that follows a version's byte: it is read as far as it can be, and then compared to what is written of it
abbrev pub said_after : Bytes → ℕ → Bytes → Option Commit
said_after payload version rest =
    if nat_lt (length rest) 16 then None
    else onward (ops_after (version == 2) [] (lines_of (drop 16 rest))) None
    (λ ops. if_written_so payload (commit_with (stamp_of_bytes rest) ops))

-- the commit that a payload says, if there is one
abbrev pub commit_said : Bytes → Option Commit
commit_said [] = None
commit_said (version ∷ rest) = said_after (version ∷ rest) version rest
