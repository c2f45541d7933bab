-- What is read of a reply, and what it then makes of an account and of dealings, case by case: it tells of no end, it
-- begins a transaction, has an operation, or ends one.
use Rattle.std.proofs.Common.{◌≡◌, ℕ, Bool, true, false, cond, Option, Some, None, is_some, refl}
use Rattle.std.specs.Option.{option_map_or}
use Rattle.qc_stamp.specs.declared.stamp.Stamp.{Stamp}
use Rattle.qc_stamp.specs.declared.stamp.TxId.{TxId}
use Rattle.qc_decl.specs.declared.declaration.Declaration.{Declaration}
use Rattle.qc_msg.specs.declared.reply.Half.{Half}
use Rattle.qc_msg.specs.declared.reply.Reply.{Reply}
use Rattle.qc_msg.specs.declared.reply.Reply.TheVariants as replies
use Rattle.qc_msg.specs.declared.step.Command.{Command}
use Rattle.qc_msg.specs.Vocabulary.{began_in, committed_in, is_end, is_in_doubt, is_refused, response_in, short_in}
use Rattle.qc_promise.specs.Accounting.{begun, ended as account_ended}
use Rattle.qc_promise.specs.Vocabulary.{Account, Dealing, dealt, ended, found_absent, refused, responded, short_of}
use Rattle.laws_reach.specs.Vocabulary.{IsNoCommit, Says}
use Rattle.laws_reach.proofs.Gists.{gist, refused_same, short_same}

abbrev pub account_by : Declaration → Account → Option TxId → Option Stamp → Option Half → Option (Option ℕ) → Bool
    → Bool → Account
account_by decl d began stamp short resp ends refuses =
    option_map_or (begun d) began
    (option_map_or (λ (at : Stamp). record (account_ended d) { clock = at.clock }) stamp
    (option_map_or (short_of d) short
    (option_map_or (λ (o : Option ℕ). cond (is_some o) (responded decl d d.command) (found_absent d d.command)) resp
    (cond ends (account_ended d) (cond refuses (refused d) d)))))

abbrev pub deal_by : TxId → Dealing → Reply → Option TxId → Option (Option ℕ) → Bool → Dealing
deal_by tx x reply began resp ends =
    option_map_or (λ (other : TxId). record x { begun = Some other }) began
    (option_map_or (dealt tx x) resp (cond ends (ended tx x reply) x))

-- one that tells of no end, and has no operation, leaves the gist of the account
pub stays_same : (decl : Declaration) (d : Account) (short : Option Half) (refuses : Bool)
    → gist (account_by decl d None None short None false refuses) ≡ gist d
stays_same decl d (Some half) refuses = short_same d half
stays_same decl d None true = refused_same d
stays_same decl d None false = refl

module _ (decl : Declaration) (d : Account) where
  pub told_cases : (P : Reply → Option TxId → Option Stamp → Option Half → Option (Option ℕ) → Bool → Bool → Bool
      → Type 0)
      → P replies.Down None None None None false false false
      → ((r : Reply) (short : Option Half) (refuses : Bool)
      → ((command : Command) → Says decl d command r → IsNoCommit d command) → began_in r ≡ None
      → committed_in r ≡ None → is_end r ≡ false → P r None None short None false refuses false)
      → ((tx : TxId) → P (replies.Began tx) (Some tx) None None None false false false)
      → P replies.Absent None None None (Some None) false false false
      → ((resp : ℕ) → P (replies.Response resp) None None None (Some (Some resp)) false false false)
      → ((r : Reply) → began_in r ≡ None → committed_in r ≡ None → is_end r ≡ true
      → P r None None None None true false false)
      → P replies.Unknown None None None None true false true
      → ((stamp : Stamp) → P (replies.Committed stamp) None (Some stamp) None None true false false)
      → (r : Reply)
      → P r (began_in r) (committed_in r) (short_in r) (response_in r) (is_end r) (is_refused r) (is_in_doubt r)
  told_cases P down stays begins finds responds over unknown commits replies.Down = down
  told_cases P down stays begins finds responds over unknown commits (replies.Already tx) =
      stays (replies.Already tx) None false (λ command says. says) refl refl refl
  told_cases P down stays begins finds responds over unknown commits (replies.Began tx) = begins tx
  told_cases P down stays begins finds responds over unknown commits replies.NoTransaction =
      stays replies.NoTransaction None false (λ command says. says) refl refl refl
  told_cases P down stays begins finds responds over unknown commits replies.Doomed =
      stays replies.Doomed None false (λ command says. says) refl refl refl
  told_cases P down stays begins finds responds over unknown commits replies.TooLong =
      stays replies.TooLong None false (λ command says. says) refl refl refl
  told_cases P down stays begins finds responds over unknown commits (replies.Closed epoch site) =
      stays (replies.Closed epoch site) None true (λ command says. says) refl refl refl
  told_cases P down stays begins finds responds over unknown commits (replies.Conflict holder site) =
      stays (replies.Conflict holder site) None true (λ command says. says) refl refl refl
  told_cases P down stays begins finds responds over unknown commits (replies.Quorum half got need) =
      stays (replies.Quorum half got need) (Some half) false (λ command says. says) refl refl refl
  told_cases P down stays begins finds responds over unknown commits replies.Absent = finds
  told_cases P down stays begins finds responds over unknown commits (replies.Response resp) = responds resp
  told_cases P down stays begins finds responds over unknown commits (replies.Aborted why) =
      over (replies.Aborted why) refl refl refl
  told_cases P down stays begins finds responds over unknown commits replies.Unknown = unknown
  told_cases P down stays begins finds responds over unknown commits (replies.Committed stamp) = commits stamp
  told_cases P down stays begins finds responds over unknown commits replies.Dropped =
      over replies.Dropped refl refl refl
  told_cases P down stays begins finds responds over unknown commits (replies.Order current) =
      stays (replies.Order current) None false (λ command says. says) refl refl refl
  told_cases P down stays begins finds responds over unknown commits (replies.InDoubt holder site) =
      stays (replies.InDoubt holder site) None false (λ command says. says) refl refl refl
  told_cases P down stays begins finds responds over unknown commits replies.Fault =
      stays replies.Fault None false (λ command says. says) refl refl refl
  told_cases P down stays begins finds responds over unknown commits (replies.Moved closed installed) =
      stays (replies.Moved closed installed) None false (λ command says. says) refl refl refl
