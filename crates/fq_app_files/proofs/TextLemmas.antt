-- What the files of the outputs hold after a run.
use Rattle.std.proofs.Common.{◌≡◌, ℕ, true, Option, Some, None, is_some, List, ◌++◌, refl, ap, ◌∙◌}
use Rattle.fq_pair.specs.declared.out.Out.{Out}
use Rattle.fq_pair.specs.declared.out.Out.TheVariants.{ForwardPaired, ForwardUnpaired, ReversePaired, ReverseUnpaired, Log}
use Rattle.fq_files.specs.Holding.{Holding}
use Rattle.fq_files.specs.States.{Keys}
use Rattle.fq_text.specs.Devices.{OutletState}
use Rattle.fq_run_core.specs.Devices.{OutletStates, TookText, Took, OutletsTook, failures_at}
use Rattle.fq_app_words.specs.Requests.{Asking}
use Rattle.fq_app_files.specs.Trimming.{AreEmpty, HasOwnName, IsEmptyOutlet}
use Rattle.fq_app_files.proofs.StoreLemmas.{HoldTaken}

-- an outlet that was empty has taken this text and nothing else
text_in : (old new : OutletState) (text : List ℕ) (failed : ℕ) → IsEmptyOutlet old →
    TookText old new text failed → new.taken ≡ text
text_in old new text failed empty took =
    took.bytes empty.tells ∙ ap (λ bytes. bytes ++ text) empty.taken

-- an outlet that exists has taken the text
found_in : (old new : Option OutletState) (text : List ℕ) (failed : ℕ) →
    ((o : OutletState) → old ≡ Some o → IsEmptyOutlet o) → is_some old ≡ true →
    Took old new text failed → (o : OutletState) × (new ≡ Some o) × (o.taken ≡ text)
found_in (Some old) (Some new) text failed empty there took =
    (new, refl, text_in old new text failed (empty old refl) took)
found_in (Some old) None text failed empty there took = absurd took
found_in None new text failed empty there took = absurd cc

there_is : (l : Option (List ℕ)) (name : List ℕ) → l ≡ Some name → is_some l ≡ true
there_is l name e = ap is_some e

module _ (a : Asking) (tells : Keys) (old new : OutletStates) (texts : Out → List ℕ)
    (failed : Option Out) (files : Holding) where
  -- the file of each output with a name of its own holds the text that its outlet took
  pub texts_held : is_some old.log ≡ is_some a.log → AreEmpty a tells old →
      OutletsTook old new texts failed → HoldTaken a tells new files →
      (out : Out) (name : List ℕ) → HasOwnName a tells out name → files name ≡ Some (texts out)
  texts_held log empty took holds ForwardPaired name own =
      let t = text_in old.forward_paired new.forward_paired (texts ForwardPaired)
      (failures_at failed ForwardPaired)
      (empty ForwardPaired name old.forward_paired own.named own.told refl) (took ForwardPaired) in
      holds ForwardPaired name new.forward_paired own refl ∙ ap Some t
  texts_held log empty took holds ForwardUnpaired name own =
      let t = text_in old.forward_unpaired new.forward_unpaired (texts ForwardUnpaired)
      (failures_at failed ForwardUnpaired)
      (empty ForwardUnpaired name old.forward_unpaired own.named own.told refl)
      (took ForwardUnpaired) in
      holds ForwardUnpaired name new.forward_unpaired own refl ∙ ap Some t
  texts_held log empty took holds ReversePaired name own =
      let t = text_in old.reverse_paired new.reverse_paired (texts ReversePaired)
      (failures_at failed ReversePaired)
      (empty ReversePaired name old.reverse_paired own.named own.told refl) (took ReversePaired) in
      holds ReversePaired name new.reverse_paired own refl ∙ ap Some t
  texts_held log empty took holds ReverseUnpaired name own =
      let t = text_in old.reverse_unpaired new.reverse_unpaired (texts ReverseUnpaired)
      (failures_at failed ReverseUnpaired)
      (empty ReverseUnpaired name old.reverse_unpaired own.named own.told refl)
      (took ReverseUnpaired) in
      holds ReverseUnpaired name new.reverse_unpaired own refl ∙ ap Some t
  texts_held log empty took holds Log name own =
      let t = found_in old.log new.log (texts Log) (failures_at failed Log)
      (λ o. empty Log name o own.named own.told) (log
      ∙ there_is a.log name own.named) (took Log) in
      holds Log name t.0 own t.1 ∙ ap Some t.2
