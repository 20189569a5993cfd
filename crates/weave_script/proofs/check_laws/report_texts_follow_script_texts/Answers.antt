use Rattle.weave_script.proofs.CheckTexts.{in_turn}
use Rattle.weave_script.proofs.check_laws.report_texts_follow_script_texts.Goals as goal

pub returns : goal.returns
returns c front text script report = in_turn front text script report (c.lines_follow_one_another.ensures front text)
