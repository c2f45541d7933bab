-- The administrator's turns: what they send, write and tell.
use Rattle.std.proofs.Common.{[], ◌≡◌, ◌⊎◌, inl, inr, true, List, ◌∷◌, Option, Some, None, refl}
use Rattle.std.specs.List.{AllByRecursion as Every}
use Rattle.qc_core.proofs.FrontWrites.{NoAnswer, says_neither, tells_neither}
use Rattle.qc_core.proofs.SiteWrites.{writes_no_life}
use Rattle.qc_msg.specs.Vocabulary.{answer_in, quiet, sending, telling}
use Rattle.qc_msg.specs.declared.message.Message.{Message}
use Rattle.qc_msg.specs.declared.message.Message.TheVariants as messages
use Rattle.qc_msg.specs.declared.record.Record.{Record}
use Rattle.qc_msg.specs.declared.record.Record.TheVariants as records
use Rattle.qc_msg.specs.declared.reply.Reply.{Reply}
use Rattle.qc_msg.specs.declared.reply.Reply.TheVariants as replies
use Rattle.qc_msg.specs.declared.turn.Appended.TheVariants.{Done}
use Rattle.qc_msg.specs.declared.turn.Posting.{Posting}
use Rattle.qc_msg.specs.declared.turn.Turn.{Turn}
use Rattle.qc_promise.specs.Vocabulary.{saying_of}
use Rattle.qc_plan.specs.Vocabulary.{verdict}

-- he tells neither that he is down nor that a record isn't written; or a fault, and does nothing else

abbrev pub TellsNone : Option Record → List Posting → Option Reply → Type 0
TellsNone write sends told = (tells_neither told ≡ true) ⊎ ((write ≡ None) × (sends ≡ []) × (told ≡ Some replies.Fault))

-- where his record isn't written he tells a fault
abbrev pub FaultsAlone : Option Record → Option Reply → Type 0
FaultsAlone None told = Unit {0}
FaultsAlone (Some written) told = told ≡ Some replies.Fault

-- what he sends: Closes, Asks and Installs

abbrev pub IsOfAdmin : Message → Type 0
IsOfAdmin (messages.Request tx epoch life want) = ⊥
IsOfAdmin (messages.Answer to answer) = ⊥
IsOfAdmin (messages.Decision tx verdict) = ⊥
IsOfAdmin (messages.Inquiry tx) = ⊥
IsOfAdmin (messages.Ask tx) = Unit {0}
IsOfAdmin (messages.Close epoch) = Unit {0}
IsOfAdmin (messages.Install start) = Unit {0}

abbrev pub IsSentByAdmin : Posting → Type 0
IsSentByAdmin p = IsOfAdmin p.message

-- what he writes: a decision, if anything

abbrev pub IsDecision : Record → Type 0
IsDecision records.Life = ⊥
IsDecision (records.Prepare p) = ⊥
IsDecision (records.Done tx clock) = ⊥
IsDecision (records.Close epoch) = ⊥
IsDecision (records.Install start) = ⊥
IsDecision (records.Commit commit) = ⊥
IsDecision (records.Decide start) = Unit {0}

abbrev pub WritesDecision : Option Record → Type 0
WritesDecision None = Unit {0}
WritesDecision (Some r) = IsDecision r

-- what he tells: how his commands end

abbrev pub IsAdminReply : Reply → Type 0
IsAdminReply replies.Down = Unit {0}
IsAdminReply (replies.Already tx) = ⊥
IsAdminReply (replies.Began tx) = ⊥
IsAdminReply replies.NoTransaction = ⊥
IsAdminReply replies.Doomed = ⊥
IsAdminReply replies.TooLong = ⊥
IsAdminReply (replies.Closed epoch site) = ⊥
IsAdminReply (replies.Conflict holder site) = ⊥
IsAdminReply (replies.Quorum half got need) = Unit {0}
IsAdminReply replies.Absent = ⊥
IsAdminReply (replies.Response resp) = ⊥
IsAdminReply (replies.Aborted why) = ⊥
IsAdminReply replies.Unknown = ⊥
IsAdminReply (replies.Committed stamp) = ⊥
IsAdminReply replies.Dropped = ⊥
IsAdminReply (replies.Order current) = Unit {0}
IsAdminReply (replies.InDoubt tx site) = Unit {0}
IsAdminReply replies.Fault = Unit {0}
IsAdminReply (replies.Moved closed installed) = Unit {0}

abbrev pub SaysAsAdmin : Option Reply → Type 0
SaysAsAdmin None = Unit {0}
SaysAsAdmin (Some reply) = IsAdminReply reply

-- where his record isn't written he sends nothing, and tells a fault
pub record IsAdminTurn (t : Turn) : Type 0 where
  pub append : t.append ≡ Done
  pub told : TellsNone t.write t.sends t.told
  pub says : SaysAsAdmin t.told
  pub fails_say : SaysAsAdmin t.failed_told
  pub writes : WritesDecision t.write
  pub fails : FaultsAlone t.write t.failed_told
  pub failed_sends : t.failed_sends ≡ []
  pub sends : Every IsSentByAdmin t.sends

-- none of it is an answer, or a record of a rise

no_answer : (m : Message) → IsOfAdmin m → answer_in m ≡ None
no_answer (messages.Request tx epoch life want) is = absurd is
no_answer (messages.Answer to answer) is = absurd is
no_answer (messages.Decision tx verdict) is = absurd is
no_answer (messages.Inquiry tx) is = absurd is
no_answer (messages.Ask tx) is = refl
no_answer (messages.Close epoch) is = refl
no_answer (messages.Install start) is = refl

pub no_answers : (ps : List Posting) → Every IsSentByAdmin ps → Every NoAnswer ps
no_answers [] are = tt
no_answers (p ∷ ps) are = (no_answer p.message are.0, no_answers ps are.1)

pub no_life : (w : Option Record) → WritesDecision w → writes_no_life w ≡ true
no_life None is = refl
no_life (Some records.Life) is = absurd is
no_life (Some (records.Prepare p)) is = absurd is
no_life (Some (records.Done tx clock)) is = absurd is
no_life (Some (records.Close epoch)) is = absurd is
no_life (Some (records.Install start)) is = absurd is
no_life (Some (records.Commit commit)) is = absurd is
no_life (Some (records.Decide start)) is = refl

pub quiet_well : IsAdminTurn quiet
quiet_well =
    record {
      append = refl;
      told = inl refl;
      says = tt;
      fails_say = tt;
      fails = tt;
      writes = tt;
      failed_sends = refl;
      sends = tt;
    }

pub tells_well : (reply : Reply) → says_neither (saying_of reply) ≡ true → IsAdminReply reply
    → IsAdminTurn (telling reply)
tells_well reply neither his =
    record {
      append = refl;
      told = inl neither;
      says = his;
      fails_say = tt;
      fails = tt;
      writes = tt;
      failed_sends = refl;
      sends = tt;
    }

pub fault_well : IsAdminTurn (telling replies.Fault)
fault_well =
    record {
      append = refl;
      told = inr (refl, refl, refl);
      says = tt;
      fails_say = tt;
      fails = tt;
      writes = tt;
      failed_sends = refl;
      sends = tt;
    }

pub sends_well : (ps : List Posting) → Every IsSentByAdmin ps → IsAdminTurn (sending ps)
sends_well ps none =
    record {
      append = refl;
      told = inl refl;
      says = tt;
      fails_say = tt;
      fails = tt;
      writes = tt;
      failed_sends = refl;
      sends = none;
    }
