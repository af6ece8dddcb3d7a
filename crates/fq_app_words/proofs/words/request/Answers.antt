use Rattle.std.proofs.Common.{◌∙◌, ap, not, codes}
use Rattle.clap.specs.Words.{found_of}
use Rattle.clap.proofs.WalkLemmas.{first_value-rows}
use Rattle.fq_app_words.specs.Requests.{names_of}
use Rattle.fq_app_words.specs.Words.{asking_in}
use Rattle.fq_app_words.proofs.words.request.Goals as goal

-- each part of the request is what the rows have for it
pub returns : goal.returns
unfolding asking_in
returns c =
    let log = c.get_str-log.ensures ∙ first_value-rows (found_of c.args.found.now)
    (codes "trimlog") in
    let report = c.get_str-report.ensures ∙ first_value-rows (found_of c.args.found.now)
    (codes "report") in
    let checked = ap not c.flag_of-unchecked.ensures in
    λ i. record {
      encoding = c.text_of-encoding.ensures i;
      threads = c.number_of-threads.ensures i;
      block = c.number_of-block.ensures i;
      depth = c.number_of-depth.ensures i;
      chunk = c.number_of-chunk.ensures i;
      check_names = checked i;
      sync = c.flag_of-sync.ensures i;
      explain = c.flag_of-explain.ensures i;
      inputs = names_of c.args.inputs;
      forward_paired = c.text_of-forward_paired.ensures i;
      forward_unpaired = c.text_of-forward_unpaired.ensures i;
      reverse_paired = c.text_of-reverse_paired.ensures i;
      reverse_unpaired = c.text_of-reverse_unpaired.ensures i;
      log = log i;
      report = report i;
      steps = c.in_ok-steps.ensures i;
    }
