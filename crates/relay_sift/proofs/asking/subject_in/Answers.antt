use Rattle.relay_sift.proofs.Subjects.{of_action, of_member}
use Rattle.relay_sift.proofs.asking.subject_in.Goals as goal

pub returns-in-UnsupportedAction : goal.returns-in-UnsupportedAction
returns-in-UnsupportedAction c = λ line ms x h. rw c.in-UnsupportedAction.is (of_action line c.args.action.now ms _ x c.action_subject.ensures)

pub returns-in-UnsupportedField : goal.returns-in-UnsupportedField
returns-in-UnsupportedField c = λ line ms x h. rw c.in-UnsupportedField.is (of_member line c.args.action.now ms _ x (c.member_subject.ensures ms h))
