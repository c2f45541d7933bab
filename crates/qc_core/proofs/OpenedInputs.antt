-- The input that is open at an actor that lives, and who is up behind a turn.
use Rattle.std.proofs.Common.{◌≡◌, ℕ, ◌+◌, Bool, true, false, List, [], ◌∷◌, ◌++◌, fold, ◌&&◌, Option, Some, None}
use Rattle.std.proofs.Common.{refl, ◌∙◌}
use Rattle.std.proofs.lemmas.List.Sums.{fold-append}
use Rattle.qc_decl.specs.declared.declaration.Declaration.{Declaration}
use Rattle.qc_msg.specs.declared.record.Record.{Record}
use Rattle.qc_msg.specs.declared.reply.Reply.{Reply}
use Rattle.qc_msg.specs.declared.step.Fall.TheVariants as causes
use Rattle.qc_msg.specs.declared.step.Input.{Input}
use Rattle.qc_msg.specs.declared.turn.Appended.{Appended}
use Rattle.qc_msg.specs.declared.turn.Appended.TheVariants.{Done, Failed, Stopped}
use Rattle.qc_msg.specs.declared.turn.Posting.{Posting}
use Rattle.qc_msg.specs.declared.turn.Turn.{Turn}
use Rattle.qc_msg.specs.Vocabulary.{Deed, Falls, Takes, deeds_as, sends_of, tells_of, writes_of}
use Rattle.qc_core.specs.Vocabulary.{Lives, MayReach, is_up, up_at}
use Rattle.qc_core.specs.Lives as lives
use Rattle.qc_core.proofs.RestingPlaces.{still_up}

-- the input that is open

pub record Opened (ds : List Deed) : Type 0 where
  pub before : List Deed
  pub given : Input
  pub is : ds ≡ before ++ Takes given ∷ []
  pub reach : MayReach (is_up before) given

pub opened : (decl : Declaration) (a : ℕ) (ds : List Deed) (b : Bool) (n : ℕ) → Lives decl a ds b n → b ≡ true
    → Opened ds
opened decl a ds b n lives.starts is = absurd (let never : ⊥ = cc in never)
opened decl a ds b n (lives.takes before g m life may comes) is =
    record { before = before; given = g; is = refl; reach = comes }
opened decl a ds b n (lives.posts before turn m first life above lawful) is = absurd (let never : ⊥ = cc in never)
opened decl a ds b n (lives.crashes before m life up_now) is = absurd (let never : ⊥ = cc in never)
opened decl a ds b n (lives.rises before records turn m first life down_now above lawful) is =
    absurd (let never : ⊥ = cc in never)
opened decl a ds b n (lives.unopened before cause m life down_now by_disk) is = absurd (let never : ⊥ = cc in never)

pub up_more : (ds more : List Deed) → is_up (ds ++ more) ≡ fold up_at (is_up ds) more
up_more ds more = fold-append up_at true ds more

sends_up : (u : Bool) (n : ℕ) (ps : List Posting) (told : Option Reply)
    → fold up_at u (sends_of n ps ++ tells_of told) ≡ u
sends_up u n [] None = refl
sends_up u n [] (Some reply) = refl
sends_up u n (p ∷ ps) told = sends_up u (n + 1) ps told

pub post_up : (u : Bool) (end : Appended) (n : ℕ) (t : Turn) → fold up_at u (deeds_as end n t) ≡ (u && still_up end)
post_up u Done n t = by t.write ∙ whole u
  where
    by : (w : Option Record) → fold up_at u (writes_of w ++ (sends_of n t.sends ++ tells_of t.told)) ≡ u
    by None = sends_up u n t.sends t.told
    by (Some written) = sends_up u n t.sends t.told

    whole : (x : Bool) → x ≡ (x && true)
    whole true = refl
    whole false = refl
post_up u Failed n t = fold-append up_at u (sends_of n t.failed_sends)
    (tells_of t.failed_told ++ Falls causes.Disk t.write ∷ [])
    ∙ fold-append up_at (fold up_at u (sends_of n t.failed_sends)) (tells_of t.failed_told)
    (Falls causes.Disk t.write ∷ [])
    ∙ none u
  where
    none : (x : Bool) → false ≡ (x && false)
    none true = refl
    none false = refl
post_up u Stopped n t = fold-append up_at u (tells_of t.failed_told) (Falls causes.Stop t.write ∷ []) ∙ none u
  where
    none : (x : Bool) → false ≡ (x && false)
    none true = refl
    none false = refl
