-- The committed transactions of a history: one committed where its client wrote so, or rose with a record that says so
-- (presumed abort).
use Rattle.std.specs.Prelude.{[], if◌then◌else◌, List, option_to_list}
use Rattle.std.specs.Option.{option_map_or}
use Rattle.std.specs.List.{filter_map, flat_map}
use Rattle.qc_decl.specs.Vocabulary.{is_client}
use Rattle.qc_decl.specs.declared.declaration.Declaration.{Declaration}
use Rattle.qc_entry.specs.declared.record.Commit.{Commit}
use Rattle.qc_msg.specs.declared.step.Step.{Step}
use Rattle.qc_msg.specs.Vocabulary.{Entry, commit_of, rose_in, wrote_in}
use Rattle.theory_onecopy.specs.Vocabulary.{sorted}
use Rattle.qc_msg.specs.declared.record.Record.{Record}

-- the commit records that a step writes, or that a rise gives
abbrev pub commits_in : Step → List Commit
commits_in step =
    option_map_or (λ (written : Record). option_to_list (commit_of written)) (wrote_in step)
    (option_map_or (filter_map commit_of) (rose_in step) [])

-- those of clients
abbrev pub commits_by : Declaration → Entry → List Commit
commits_by decl e = if is_client decl e.actor then commits_in e.step else []

-- all of them, one that was written and rose more than once, in the order of their steps
abbrev pub records : Declaration → List Entry → List Commit
records decl h = flat_map (commits_by decl) h

-- the distinct ones, in the order of their stamps
abbrev pub committed : Declaration → List Entry → List Commit
committed decl h = sorted (records decl h)
