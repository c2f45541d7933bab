-- A client that rises by few records in form is in form.
use Rattle.std.proofs.Common.{◌≡◌, ℕ, ◌+◌, ◌^◌, ◌≤◌, not, List, [], ◌∷◌, ◌++◌, fold, length, refl, arith}
use Rattle.std.specs.List.{AllByRecursion as Every}
use Rattle.std.proofs.lemmas.List.{length-append}
use Rattle.qc_list.proofs.Members.{every-append, every-filter}
use Rattle.qc_decl.specs.declared.declaration.Declaration.{Declaration}
use Rattle.qc_entry.specs.declared.record.Commit.{Commit}
use Rattle.qc_msg.specs.declared.record.Record.{Record}
use Rattle.qc_msg.specs.declared.record.Record.TheVariants as records
use Rattle.qc_recover.specs.Vocabulary.{client_of, with_commit}
use Rattle.qc_recover.specs.Clients.{Kept, keeps, kept_by, nothing_kept, with_commit}
use Rattle.qc_recover.proofs.Lives.{client_lives}
use Rattle.qc_stamp.specs.Vocabulary.{same_tx}
use Rattle.laws_bounds.proofs.ClientsInForm.{ClientInForm}
use Rattle.laws_bounds.proofs.DesksInForm.{CommitsInForm}
use Rattle.laws_bounds.proofs.Forms.{RecordInForm, StampInForm, CommitInForm}
use Rattle.std.specs.Prelude.{Bool, true, false, cond, max}
use Rattle.std.specs.Option.{option_map_or}
use Rattle.qc_msg.specs.Vocabulary.{commit_of, is_life}
use Rattle.laws_bounds.proofs.Cases.{commit_cases}
use Rattle.laws_bounds.proofs.Options.{map_or}

commit_form : (commits : List Commit) (c : Commit) → CommitsInForm commits → StampInForm c.stamp c.tx
    → CommitsInForm (with_commit commits c)
commit_form commits c all here =
    every-append (λ (k : Commit). StampInForm k.stamp k.tx) _ (c ∷ [])
    (every-filter (λ (k : Commit). StampInForm k.stamp k.tx) (λ (k : Commit). not (same_tx k.tx c.tx)) commits all)
    (here, tt)

record KeptInForm (k : Kept) : Type 0 where
  life : 1 ≤ k.life
  commits : CommitsInForm k.commits

abbrev pub with_record : Kept → Commit → Kept
with_record k c = record k { commits = with_commit k.commits c; clock = max k.clock c.stamp.clock }

keeps_form : (k : Kept) (r : Record) → RecordInForm r → KeptInForm k → KeptInForm (keeps k r)
keeps_form k r here w =
    by (is_life r)
    (map_or KeptInForm CommitInForm (with_record k) k (commit_of r)
    (commit_cases RecordInForm CommitInForm (λ c form. form) r here) w
    (λ c form. record { life = w.life; commits = commit_form k.commits c w.commits form.stamp }))
  where
    by : (b : Bool) → KeptInForm (option_map_or (with_record k) (commit_of r) k)
        → KeptInForm (cond b (record k { life = k.life + 1 }) (option_map_or (with_record k) (commit_of r) k))
    by true kept = record { life = omega arith; commits = w.commits }
    by false kept = kept

kept_form : (rs : List Record) (k : Kept) → Every RecordInForm rs → KeptInForm k → KeptInForm (fold keeps k rs)
kept_form [] k all w = w
kept_form (r ∷ rs) k all w = kept_form rs (keeps k r) all.1 (keeps_form k r all.0 w)

pub client_risen_form : (decl : Declaration) (client : ℕ) (rs : List Record) → Every RecordInForm rs
    → length rs ≤ 2 ^ 31 → ClientInForm decl client (client_of client (rs ++ records.Life ∷ []))
client_risen_form decl client rs all few =
    let k : KeptInForm (kept_by (rs ++ records.Life ∷ [])) =
    kept_form (rs ++ records.Life ∷ []) nothing_kept (every-append RecordInForm rs (records.Life ∷ []) all (tt, tt))
    (record { life = omega arith; commits = tt }) in
    let longer : length (rs ++ records.Life ∷ []) ≡ length rs + 1 = length-append rs (records.Life ∷ []) in
    let high : (kept_by (rs ++ records.Life ∷ [])).life ≤ 1 + length (rs ++ records.Life ∷ []) =
    client_lives nothing_kept (rs ++ records.Life ∷ []) in
    record {
      front = record {
        client_is = refl;
        life = (k.life, omega (arith, longer, high, few));
        begun = tt;
        doing = tt;
      };
      desk = record { client_is = refl; voting = tt; commits = k.commits };
    }
