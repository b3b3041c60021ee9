pub mod QuestionSteps
