use Rattle.std.proofs.Common.{rules, ◌≡◌, ℕ, List, true, not, eqb, drop, ap, sym, subst}
use Rattle.std.specs.List.{list_all}
use Rattle.fq_text.specs.Grammar.{Read, IsLawful}
use Rattle.fq_text.proofs.LineLemmas.{one_line_to}
use Rattle.fq_text.proofs.unwrapped.begins_with_record.Goals as goal

-- the title is a first line, so it holds no LF
pub is_lawful_line-requires : goal.is_lawful_line-requires
is_lawful_line-requires c =
    let title = ap (λ (read : Read). read.title) (c.parts_of.ensures c.args.encoding) in
    subst (λ (xs : List ℕ). list_all (λ b. not (eqb b 10)) xs ≡ true) title
    (one_line_to c.args.shape.title (drop 1 c.args.hand.now) c.requires.title.no_lf)

-- the four lines are a valid record exactly if their parts are one
pub returns : goal.returns
returns c =
    let parts = c.parts_of.ensures c.args.encoding in (
      λ lawful. record {
        shape = c.requires.shape;
        lines = search rules;
        some = search rules;
        lawful = subst IsLawful (sym parts) (c.is_lawful_line.ensures.0 lawful);
        plain = c.requires.title.plain;
      },
      λ first. c.is_lawful_line.ensures.1 (subst IsLawful parts first.lawful),
    )
