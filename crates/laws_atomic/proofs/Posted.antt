-- What an actor is, and what was written, after a turn and after an input.
use Rattle.std.proofs.Common.{◌≡◌, ℕ, ◌+◌, List, [], ◌∷◌, ◌++◌, Option, Some, None, option_to_list, refl, ap, ◌∙◌}
use Rattle.std.specs.List.{cons_option, fold}
use Rattle.std.proofs.lemmas.List.{append-nil}
use Rattle.std.proofs.lemmas.List.Elements.{filter_map-append}
use Rattle.std.proofs.lemmas.List.Sums.{fold-append}
use Rattle.qc_entry.specs.declared.record.Commit.{Commit as CommitRecord}
use Rattle.qc_decl.specs.declared.declaration.Declaration.{Declaration}
use Rattle.qc_msg.specs.declared.record.Record.{Record}
use Rattle.qc_msg.specs.declared.reply.Reply.{Reply}
use Rattle.qc_msg.specs.declared.step.Control.{Control}
use Rattle.qc_msg.specs.declared.step.Control.TheVariants as controls
use Rattle.qc_msg.specs.declared.step.Input.{Input}
use Rattle.qc_msg.specs.declared.step.Input.TheVariants as inputs
use Rattle.qc_msg.specs.declared.step.Step.{Step}
use Rattle.qc_msg.specs.declared.step.Step.TheVariants as steps
use Rattle.qc_msg.specs.declared.turn.Posting.{Posting}
use Rattle.qc_msg.specs.declared.turn.Turn.{Turn}
use Rattle.qc_msg.specs.Vocabulary.{Deed, Entry, Sends, Takes, by, commit_in, commit_of, marked, posted, quiet}
use Rattle.qc_msg.specs.Vocabulary.{sends_of, sents, step_of, tells_of, told, turn_deeds, writes_of, written, wrote}
use Rattle.qc_script.specs.Vocabulary.{step_of_control}
use Rattle.qc_client.specs.Vocabulary.{ClientMove, client_after, client_does, moved as client_moved, new_client}
use Rattle.qc_site.specs.Vocabulary.{SiteMove, moved as site_moved, new_site, site_after, site_does, site_takes}
use Rattle.laws_refinement.specs.Vocabulary.{commits_in, sent_all}

-- a site

pub site_taken : (decl : Declaration) (a : ℕ) (ds : List Deed) (g : Input)
    → site_after decl a (ds ++ Takes g ∷ []) ≡ site_takes decl (site_after decl a ds).site g
site_taken decl a ds g = fold-append (site_does decl) (site_moved (new_site a) quiet) ds (Takes g ∷ [])

site_sends : (decl : Declaration) (m : SiteMove) (n : ℕ) (ps : List Posting) (reply : Option Reply)
    → fold (site_does decl) m (sends_of n ps ++ tells_of reply) ≡ m
site_sends decl m n [] None = refl
site_sends decl m n [] (Some reply) = refl
site_sends decl m n (p ∷ ps) reply = site_sends decl m (n + 1) ps reply

pub site_posted : (decl : Declaration) (a : ℕ) (ds : List Deed) (n : ℕ) (turn : Turn)
    → site_after decl a (ds ++ turn_deeds n turn) ≡ site_after decl a ds
site_posted decl a ds n turn = fold-append (site_does decl) (site_moved (new_site a) quiet) ds (turn_deeds n turn)
    ∙ at turn.write
  where
    at : (w : Option Record) → fold (site_does decl) (site_after decl a ds)
        (writes_of w ++ (sends_of n turn.sends ++ tells_of turn.told)) ≡ site_after decl a ds
    at None = site_sends decl (site_after decl a ds) n turn.sends turn.told
    at (Some record_written) = site_sends decl (site_after decl a ds) n turn.sends turn.told

-- a client

client_sends : (decl : Declaration) (m : ClientMove) (n : ℕ) (ps : List Posting) (reply : Option Reply)
    → (fold (client_does decl) m (sends_of n ps ++ tells_of reply)).client ≡ sent_all m.client n ps
client_sends decl m n [] None = refl
client_sends decl m n [] (Some reply) = refl
client_sends decl m n (p ∷ ps) reply = client_sends decl (client_does decl m (Sends n p.to p.message)) (n + 1) ps reply

pub client_posted : (decl : Declaration) (k : ℕ) (ds : List Deed) (n : ℕ) (turn : Turn)
    → (client_after decl k (ds ++ turn_deeds n turn)).client ≡ sent_all (client_after decl k ds).client n turn.sends
client_posted decl k ds n turn = ap (λ (m : ClientMove). m.client)
    (fold-append (client_does decl) (client_moved (new_client k) quiet) ds (turn_deeds n turn)) ∙ at turn.write
  where
    at : (w : Option Record) → (fold (client_does decl) (client_after decl k ds)
        (writes_of w ++ (sends_of n turn.sends ++ tells_of turn.told))).client ≡ sent_all
        (client_after decl k ds).client n turn.sends
    at None = client_sends decl (client_after decl k ds) n turn.sends turn.told
    at (Some record_written) = client_sends decl (client_after decl k ds) n turn.sends turn.told

-- the commit records

pub written-append : (h k : List Entry) → written (h ++ k) ≡ written h ++ written k
written-append h k = filter_map-append (λ (e : Entry). commit_in e.step) h k

-- a step that writes none
pub written_same : (h : List Entry) (a : ℕ) (step : Step) → commit_in step ≡ None
    → written (h ++ marked a step ∷ []) ≡ written h
written_same h a step none =
    written-append h (marked a step ∷ []) ∙ ap (λ (o : Option CommitRecord). written h ++ cons_option o []) none
    ∙ append-nil (written h)

pub taken_writes : (g : Input) → commit_in (step_of g) ≡ None
taken_writes (inputs.Called command) = refl
taken_writes (inputs.Got envelope) = refl
taken_writes (inputs.Lost number) = refl

pub control_writes : (line : Control) (step : Step) → step_of_control line ≡ Some step → commit_in step ≡ None
control_writes (controls.Phase k) step is = absurd (let never : ⊥ = cc in never)
control_writes (controls.Cut a b) step is = ap commit_in (let same : step ≡ steps.Cut a b = cc in same)
control_writes (controls.Heal a b) step is = ap commit_in (let same : step ≡ steps.Heal a b = cc in same)
control_writes (controls.Armed actor kind at) step is = absurd (let never : ⊥ = cc in never)
control_writes (controls.Crash a) step is = absurd (let never : ⊥ = cc in never)
control_writes (controls.Restart a) step is = absurd (let never : ⊥ = cc in never)

told_writes : (a n : ℕ) (ps : List Posting) (reply : Option Reply) → written (by a (sents n ps ++ told reply)) ≡ []
told_writes a n [] None = refl
told_writes a n [] (Some reply) = refl
told_writes a n (p ∷ ps) reply = told_writes a (n + 1) ps reply

turn_writes : (a n : ℕ) (turn : Turn) → written (by a (posted n turn)) ≡ commits_in turn.write
turn_writes a n turn = at turn.write
  where
    one : (o : Option CommitRecord) → cons_option o [] ≡ option_to_list o
    one None = refl
    one (Some c) = refl

    at : (w : Option Record) → written (by a (wrote w ++ (sents n turn.sends ++ told turn.told))) ≡ commits_in w
    at None = told_writes a n turn.sends turn.told
    at (Some record_written) = ap (λ (cs : List CommitRecord). cons_option (commit_of record_written) cs)
        (told_writes a n turn.sends turn.told) ∙ one (commit_of record_written)

pub written_posted : (h : List Entry) (a n : ℕ) (turn : Turn)
    → written (h ++ by a (posted n turn)) ≡ written h ++ commits_in turn.write
written_posted h a n turn = written-append h (by a (posted n turn))
    ∙ ap (λ (cs : List CommitRecord). written h ++ cs) (turn_writes a n turn)
