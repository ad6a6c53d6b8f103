use Rattle.std.proofs.Common.{◌≡◌, ℕ, List, length, Result, Ok, sym, ap, subst, ◌∙◌, arith}
use Rattle.std.proofs.lemmas.List.{length-map}
use Rattle.std.proofs.lemmas.Option.{same_Some}
use Rattle.ix_base.specs.declared.fault.Fault.{Fault}
use Rattle.file_image.specs.Front.{with_front}
use Rattle.reach_model.specs.LineTables as meant
use Rattle.line_files.specs.declared.run.Last.{Last}
use Rattle.line_files.specs.declared.run.FilesSoFar.{FilesSoFar}
use Rattle.line_files.specs.Found.{hit_seen, hits_seen}
use Rattle.line_files.specs.Runs.{matches, AreOfTable}
use Rattle.line_files.proofs.RepeatLaws.{all_of, table_known, table_repeated, with_table}
use Rattle.line_files.proofs.run.FilesSoFar.add_table.Goals as goal
use Rattle.line_files.proofs.run.FilesSoFar.add_table.Goals.{in-Some+in_ok-repeat-in-Some, in_default+in_ok-files-in_default+in_ok-add_matches-in_default}

pub repeat-requires : goal.repeat-requires
repeat-requires c =
    let known = c.requires c.in-Some.last c.in-Some.is in
    omega (arith, known.within, length-map c.args.self.now.hits.items hit_seen)

-- the name stays
same_name : (c : goal.After-self-1) → c.match-self.self.name ≡ c.args.self.now.name
same_name c =
    elim c.match-self.branch [
      | in-Some+in_ok-repeat-in-Some w ↦ ap (λ (r : FilesSoFar). r.name) w.self-is
      | in_default+in_ok-files-in_default+in_ok-add_matches-in_default w ↦ ap (λ (r : FilesSoFar). r.name) w.self-is
    ]

-- what was added is what the table gives
added : (c : goal.After-self-1) → with_table c.args.sections.now c.args.self.now.name.now (hits_seen c.args.self.now.hits.items) c.args.unit c.args.start c.args.place ≡ Ok (hits_seen c.match-self.self.hits.items)
added c =
    let ss = c.args.sections.now in
    let name = c.args.self.now.name.now in
    let old = hits_seen c.args.self.now.hits.items in
    elim c.match-self.branch [
      | in-Some+in_ok-repeat-in-Some w ↦
          let known = c.requires w.in-Some.last w.in-Some.is in
          let hits : hits_seen c.match-self.self.hits.items ≡ hits_seen w.repeat.new.hits.items = ap (λ (r : FilesSoFar). hits_seen r.hits.items) w.self-is in
          table_repeated ss name old c.args.unit c.args.start c.args.place w.in-Some.last known w.if-last-place.true ∙ ap all_of (sym w.in_ok-repeat-in-Some.ensures ∙ sym hits)
      | in_default+in_ok-files-in_default+in_ok-add_matches-in_default w ↦
          let hits : hits_seen c.match-self.self.hits.items ≡ hits_seen w.add_matches.new.hits.items = ap (λ (r : FilesSoFar). hits_seen r.hits.items) w.self-is in
          ap (λ (files : Result (List meant.FileName) Fault). with_front old (matches c.args.unit name files)) w.in_ok-files-in_default.ensures ∙ w.in_ok-add_matches-in_default.ensures ∙ ap all_of (sym hits)
    ]

pub returns-clause-value : goal.returns-clause-value
returns-clause-value c = added c

pub returns-clause-last : goal.returns-clause-last
returns-clause-last c x is =
    let ss = c.args.sections.now in
    let old = hits_seen c.args.self.now.hits.items in
    let new = hits_seen c.match-self.self.hits.items in
    let known = table_known ss c.args.self.now.name.now old c.args.unit c.args.start c.args.place new (added c) in
    let first : c.len-first.result ≡ length old = omega (arith, c.len-first.ensures, c.args.self.now.hits.ok.0, length-map c.args.self.now.hits.items hit_seen) in
    let made : Last = record { place = c.args.place; first = length old } in
    let same : made ≡ x = ap (λ (n : ℕ). let l : Last = record { place = c.args.place; first = n } in l) (sym first) ∙ same_Some _ x is in
    rw (same_name c) (subst (AreOfTable ss c.args.self.now.name.now new) same known)
