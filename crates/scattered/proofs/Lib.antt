mod Stacks
mod Reading
mod Failing
mod Joined
mod WholeTexts
