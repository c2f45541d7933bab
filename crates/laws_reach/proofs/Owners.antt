-- The account of a client stays that client's.
use Rattle.std.proofs.Common.{◌≡◌, ℕ, Bool, true, false, Option, Some, None, option_and_then, refl, ap}
use Rattle.qc_stamp.specs.declared.stamp.Stamp.{Stamp}
use Rattle.qc_stamp.specs.declared.stamp.TxId.{TxId}
use Rattle.qc_decl.specs.declared.declaration.Declaration.{Declaration}
use Rattle.qc_msg.specs.declared.reply.Half.{Half}
use Rattle.qc_msg.specs.declared.reply.Reply.{Reply}
use Rattle.qc_msg.specs.declared.step.Command.{Command}
use Rattle.qc_msg.specs.declared.step.Input.TheVariants as inputs
use Rattle.qc_msg.specs.Vocabulary.{Deed, Falls, Invocation, Rises, Sends, Takes, Tells, Writes, began_in, committed_in}
use Rattle.qc_msg.specs.Vocabulary.{do_in, is_end, is_refused, response_in, short_in}
use Rattle.qc_promise.specs.Vocabulary.{Account, Current, account_at, account_told, answer_of, found_absent, responded}
use Rattle.qc_promise.specs.Vocabulary.{short_of, with_absent, with_current, with_response}
use Rattle.laws_turns.proofs.ReadingCases.{mapped}
use Rattle.laws_reach.proofs.Gists.{Gist, counted_same, heard_same, sent_same, short_same}
use Rattle.laws_reach.proofs.ToldCases.{account_by}
use Rattle.laws_due.proofs.Anew.{written_client}

-- whose it is, and in which life
abbrev pub SameOwner : Account → Account → Type 0
SameOwner d e = (e.client ≡ d.client) × (e.life ≡ d.life)

absent_owner : (d : Account) (o : Option Command) → SameOwner d (found_absent d o)
absent_owner d o =
    mapped (SameOwner d) (λ (i : Invocation). with_current d (λ (t : Current). with_absent t i.object i.inv)) d
    (option_and_then do_in o) (λ i. (refl, refl)) (refl, refl)

response_owner : (decl : Declaration) (d : Account) (o : Option Command) → SameOwner d (responded decl d o)
response_owner decl d o =
    mapped (SameOwner d) (λ (i : Invocation). with_current d
    (λ (t : Current). with_response decl t i.object i.inv (answer_of decl t i.object i.inv))) d
    (option_and_then do_in o) (λ i. (refl, refl)) (refl, refl)

short_owner : (d : Account) (half : Half) → SameOwner d (short_of d half)
short_owner d half =
    (ap (λ (g : Gist). g.client) (short_same d half), ap (λ (g : Gist). g.life) (short_same d half))

pub told_owner : (decl : Declaration) (d : Account) (reply : Reply) → SameOwner d (account_told decl d reply)
told_owner decl d reply =
    by (began_in reply) (committed_in reply) (short_in reply) (response_in reply) (is_end reply) (is_refused reply)
  where
    by : (began : Option TxId) (stamp : Option Stamp) (short : Option Half) (resp : Option (Option ℕ))
        (ends refuses : Bool) → SameOwner d (account_by decl d began stamp short resp ends refuses)
    by (Some tx) stamp short resp ends refuses = (refl, refl)
    by None (Some at) short resp ends refuses = (refl, refl)
    by None None (Some half) resp ends refuses = short_owner d half
    by None None None (Some None) ends refuses = absent_owner d d.command
    by None None None (Some (Some r)) ends refuses = response_owner decl d d.command
    by None None None None true refuses = (refl, refl)
    by None None None None false true = (refl, refl)
    by None None None None false false = (refl, refl)

pub same_client : (decl : Declaration) (d : Account) (x : Deed) → (account_at decl d x).client ≡ d.client
same_client decl d (Takes (inputs.Called command)) = refl
same_client decl d (Takes (inputs.Got envelope)) = ap (λ (g : Gist). g.client) (heard_same d envelope.message)
same_client decl d (Takes (inputs.Lost number)) = ap (λ (g : Gist). g.client) (counted_same d number None)
same_client decl d (Writes w) = written_client d w
same_client decl d (Sends number to message) = ap (λ (g : Gist). g.client) (sent_same decl d number to message)
same_client decl d (Tells reply) = (told_owner decl d reply).0
same_client decl d (Falls cause pending) = refl
same_client decl d (Rises kept) = refl
