-- A client that has risen is tied to its account, whatever the records that it rose with.
use Rattle.std.proofs.Common.{◌≡◌, ℕ, ◌+◌, List, [], ◌∷◌, None, refl, sym, ap, ◌∙◌, subst, arith}
use Rattle.std.specs.Prelude.{fold}
use Rattle.std.proofs.lemmas.List.Sums.{fold-append}
use Rattle.qc_decl.specs.declared.declaration.Declaration.{Declaration}
use Rattle.qc_front.specs.declared.doing.Doing.TheVariants.{Idle}
use Rattle.qc_msg.specs.declared.record.Record.{Record}
use Rattle.qc_msg.specs.declared.record.Record.TheVariants as records
use Rattle.qc_promise.specs.Vocabulary.{Account, account_with, account_written, clock_with, life_with}
use Rattle.qc_recover.specs.Vocabulary.{client_by, client_rises, front_by}
use Rattle.qc_recover.specs.Clients.{Kept, keeps, kept_by, nothing_kept}
use Rattle.laws_due.specs.Vocabulary.{Holds, Ties, front_of, rests}

-- the life and the clock of its records are the account's

one_kept : (k : Kept) (r : Record)
    → ((keeps k r).life ≡ life_with k.life r) × ((keeps k r).clock ≡ clock_with k.clock r)
one_kept k records.Life = (refl, refl)
one_kept k (records.Prepare p) = (refl, refl)
one_kept k (records.Done tx clock) = (refl, refl)
one_kept k (records.Close epoch) = (refl, refl)
one_kept k (records.Install start) = (refl, refl)
one_kept k (records.Commit commit) = (refl, refl)
one_kept k (records.Decide start) = (refl, refl)

all_lives : (rs : List Record) (k : Kept) → (fold keeps k rs).life ≡ fold life_with k.life rs
all_lives [] k = refl
all_lives (r ∷ rs) k = all_lives rs (keeps k r) ∙ ap (λ (n : ℕ). fold life_with n rs) (one_kept k r).0

all_clocks : (rs : List Record) (k : Kept) → (fold keeps k rs).clock ≡ fold clock_with k.clock rs
all_clocks [] k = refl
all_clocks (r ∷ rs) k = all_clocks rs (keeps k r) ∙ ap (λ (n : ℕ). fold clock_with n rs) (one_kept k r).1

module _ (decl : Declaration) (client : ℕ) (kept : List Record) where
  -- the account once the record of the rise is written
  abbrev pub risen_account : Account
  risen_account = account_written (account_with client kept) records.Life

  front_is : front_by client (keeps (kept_by kept) records.Life) ≡ front_of risen_account None Idle
  front_is = λ i. record (front_of risen_account None Idle) {
    life = all_lives kept nothing_kept i + 1;
    clock = record { value = all_clocks kept nothing_kept i };
  }

  by_records : Ties decl risen_account (client_by client (keeps (kept_by kept) records.Life))
  by_records = rests (record {
    command = tt;
    requests = refl;
    written = refl;
    begun = tt;
    front = front_is;
    desk = record {
      client = refl;
      clock = (let same : (kept_by kept).clock ≡ risen_account.clock = all_clocks kept nothing_kept in omega arith);
      epoch = omega arith;
      voting = refl;
    };
  })

  pub risen_ties : Ties decl risen_account (client_rises client kept).client
  risen_ties = subst (λ (k : Kept). Ties decl risen_account (client_by client k))
      (sym (fold-append keeps nothing_kept kept (records.Life ∷ []))) by_records

  pub risen_holds : Holds decl (client_rises client kept).client
  risen_holds = record { front = refl; numbered = tt }
