-- A post takes nothing, whatever becomes of its record; begun transactions alone are asked about.
use Rattle.std.proofs.Common.{[], ◌≡◌, ◌≤◌, ℕ, ◌+◌, Bool, true, List, ◌∷◌, ◌++◌, Option, Some, None, arith}
use Rattle.std.specs.List.{AllByRecursion as Every}
use Rattle.qc_core.specs.Vocabulary.{IsLawfulWithFalls}
use Rattle.qc_msg.specs.Vocabulary.{Entry, Falls, deeds, deeds_as, sends_of, tells_of}
use Rattle.qc_decl.specs.Vocabulary.{IsAccepted, actors, is_client}
use Rattle.qc_decl.specs.declared.declaration.Declaration.{Declaration}
use Rattle.qc_link.specs.Vocabulary.{most_actors}
use Rattle.qc_list.proofs.Members.{every-append}
use Rattle.qc_msg.specs.declared.record.Record.{Record}
use Rattle.qc_msg.specs.declared.reply.Reply.{Reply}
use Rattle.qc_msg.specs.declared.step.Fall.TheVariants as causes
use Rattle.qc_msg.specs.declared.turn.Appended.{Appended}
use Rattle.qc_msg.specs.declared.turn.Appended.TheVariants.{Done, Failed, Stopped}
use Rattle.qc_msg.specs.declared.turn.Posting.{Posting}
use Rattle.qc_msg.specs.declared.turn.Turn.{Turn}
use Rattle.qc_promise.specs.Vocabulary.{Unborn}
use Rattle.laws_turns.proofs.Bounding.{turn-posts}
use Rattle.laws_turns.proofs.ClientsWithin.{IsPost}
use Rattle.laws_turns.proofs.KnownDeeds.{KnownFrom}
use Rattle.qc_script.specs.Vocabulary.{IsScriptFor, RunsWithFalls}
use Rattle.qc_script.specs.declared.script.Script.{Script}
use Rattle.qc_stamp.specs.declared.stamp.TxId.{TxId}

-- a post takes nothing, whatever becomes of its record

sends_post : (n : ℕ) (ps : List Posting) → Every IsPost (sends_of n ps)
sends_post n [] = tt
sends_post n (p ∷ ps) = (tt, sends_post (n + 1) ps)

tells_post : (told : Option Reply) → Every IsPost (tells_of told)
tells_post None = tt
tells_post (Some reply) = (tt, tt)

pub post_posts : (end : Appended) (n : ℕ) (turn : Turn) → Every IsPost (deeds_as end n turn)
post_posts Done n turn = turn-posts n turn
post_posts Failed n turn =
    every-append IsPost (sends_of n turn.failed_sends) (tells_of turn.failed_told ++ Falls causes.Disk turn.write ∷ [])
    (sends_post n turn.failed_sends)
    (every-append IsPost (tells_of turn.failed_told) (Falls causes.Disk turn.write ∷ []) (tells_post turn.failed_told)
    (tt, tt))
post_posts Stopped n turn =
    every-append IsPost (tells_of turn.failed_told) (Falls causes.Stop turn.write ∷ []) (tells_post turn.failed_told)
    (tt, tt)

module _ (decl : Declaration) (script : Script) (fits : ℕ → List Record → Type 0) (accepted : IsAccepted decl)
    (sound : IsScriptFor decl script) where
  abbrev IsRun : List Entry → List Bool → Type 0
  IsRun h open_inputs = RunsWithFalls (IsLawfulWithFalls decl) fits decl script h open_inputs

  pub few : actors decl ≤ most_actors
  few = let s = accepted.sites in let c = accepted.clients in omega arith

  -- where it is asked about begun transactions alone

  abbrev AreKnown : List Entry → Type 0
  AreKnown h = (a : ℕ) → is_client decl a ≡ true → (tx : TxId) → KnownFrom tx Unborn (deeds a [] h)
